-- Small plans and trees over their numbered rules: what the worked examples of the closure speak of.
use Rattle.std.specs.Prelude.{ℕ, true, List, [], ◌∷◌, map, None, codes}
use Rattle.ix_model.specs.declared.grammar.Mark.TheVariants.{Element}
use Rattle.ix_model.specs.declared.rules.Kind.TheVariants.{Named}
use Rattle.ix_model.specs.declared.rules.Sym.{Sym}
use Rattle.ix_model.specs.declared.rules.Sym.TheVariants as sym
use Rattle.ix_model.specs.declared.rules.Flat.{Flat}
use Rattle.ix_model.specs.declared.rules.Terminal.{Terminal}
use Rattle.ix_model.specs.declared.rules.Terminal.TheVariants as terminal
use Rattle.ix_model.specs.Expansion.Parts.{Parts}
use Rattle.ix_model.specs.Expansion.Expanded.{line}
use Rattle.ix_model.specs.Expansion.Numbering.{numbering}
use Rattle.ix_model.specs.Expansion.FlatTrees.{FlatTree, flat_text, flat_node, FlatTrees, no_flat, flats_and}

-- ---- how the values are put together

-- a call of the rule
abbrev pub call : ℕ → Sym
call r = sym.Rule r None

-- a literal that is shown
abbrev pub literal : ℕ → Sym
literal n = sym.Term n true

-- a named rule of these alternatives
abbrev pub named : List (List Sym) → Flat
named lines = record { kind = Named; lines = map line lines }

-- the plan of named rules, with these literals and insertions, for a text
abbrev pub plan_of : List (List ℕ) → List Flat → List Terminal → List (List ℕ) → List ℕ → Parts
plan_of names flats terminals inserts text = record {
  rules = record { names = names; marks = map (λ name. Element) names; flats = flats; terminals = terminals; inserts = inserts };
  slots = numbering flats;
  text = text;
}

-- one tree
abbrev pub alone : FlatTree → FlatTrees
alone d = flats_and no_flat d

-- two trees
abbrev pub pair : FlatTree → FlatTree → FlatTrees
pair d e = flats_and (alone d) e

-- ---- plans

-- of S: "a".
abbrev pub only_a : List ℕ → Parts
only_a = plan_of (codes "S" ∷ []) (named ((literal 0 ∷ []) ∷ []) ∷ []) (terminal.Lit (codes "a") ∷ []) []

-- of S: S; "a".
abbrev pub cycle : List ℕ → Parts
cycle = plan_of (codes "S" ∷ []) (named ((call 0 ∷ []) ∷ (literal 0 ∷ []) ∷ []) ∷ []) (terminal.Lit (codes "a") ∷ []) []

-- of S: .
abbrev pub nothing : List ℕ → Parts
nothing = plan_of (codes "S" ∷ []) (named ([] ∷ []) ∷ []) [] []

-- of S: +"x".
abbrev pub insertion : List ℕ → Parts
insertion = plan_of (codes "S" ∷ []) (named ((sym.Insert 0 ∷ []) ∷ []) ∷ []) [] (codes "x" ∷ [])

-- of S: "a"; "a", "b".
abbrev pub two_beginnings : List ℕ → Parts
two_beginnings = plan_of (codes "S" ∷ []) (named ((literal 0 ∷ []) ∷ (literal 0 ∷ literal 1 ∷ []) ∷ []) ∷ []) (terminal.Lit (codes "a") ∷ terminal.Lit (codes "b") ∷ []) []

-- of S: "a"; "a".
abbrev pub two_alternatives : List ℕ → Parts
two_alternatives = plan_of (codes "S" ∷ []) (named ((literal 0 ∷ []) ∷ (literal 0 ∷ []) ∷ []) ∷ []) (terminal.Lit (codes "a") ∷ []) []

-- of S: A, A. A: "a"; .
abbrev pub two_halves : List ℕ → Parts
two_halves = plan_of (codes "S" ∷ codes "A" ∷ []) (named ((call 1 ∷ call 1 ∷ []) ∷ []) ∷ named ((literal 0 ∷ []) ∷ [] ∷ []) ∷ []) (terminal.Lit (codes "a") ∷ []) []

-- ---- trees

-- `a` by an alternative of S that is one literal
abbrev pub a_by : ℕ → FlatTree
a_by alt = flat_node 0 alt (alone (flat_text 0 1))

-- `ab` by the second alternative of S: "a"; "a", "b".
abbrev pub ab_tree : FlatTree
ab_tree = flat_node 0 1 (pair (flat_text 0 1) (flat_text 1 2))

-- `a` under S: A, A. A: "a"; .   with the character in the first half, or in the second
abbrev pub in_first : FlatTree
in_first = flat_node 0 0 (pair (flat_node 1 0 (alone (flat_text 0 1))) (flat_node 1 1 no_flat))

abbrev pub in_second : FlatTree
in_second = flat_node 0 0 (pair (flat_node 1 1 no_flat) (flat_node 1 0 (alone (flat_text 0 1))))
