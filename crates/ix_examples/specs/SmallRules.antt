-- Small numbered rules, their plans and trees over them: what the worked examples speak of.
use Rattle.std.specs.Prelude.{ℕ, true, List, [], ◌∷◌, map, Some, None, codes}
use Rattle.ix_model.specs.declared.grammar.Mark.TheVariants.{Element}
use Rattle.ix_model.specs.declared.grammar.Term.{Term, Opt, Star}
use Rattle.ix_model.specs.declared.rules.Kind.{Kind}
use Rattle.ix_model.specs.declared.rules.Kind.TheVariants as kind
use Rattle.ix_model.specs.declared.rules.Sym.{Sym}
use Rattle.ix_model.specs.declared.rules.Sym.TheVariants as sym
use Rattle.ix_model.specs.declared.rules.Flat.{Flat}
use Rattle.ix_model.specs.declared.rules.Rules.{Rules}
use Rattle.ix_model.specs.declared.rules.Terminal.{Terminal}
use Rattle.ix_model.specs.declared.rules.Terminal.TheVariants as terminal
use Rattle.ix_model.specs.declared.char_set.CharRange.{CharRange}
use Rattle.ix_model.specs.Expansion.Parts.{Parts}
use Rattle.ix_model.specs.Expansion.Numbering.{slot}
use Rattle.ix_model.specs.Derivations.Trees.{Tree, text, list, one, again_after}
use Rattle.ix_model.specs.Expansion.FlatTrees.{FlatTree, flat_text, flat_insertion, flat_node, no_flat, flats_and}
use Rattle.ix_model.specs.Expansion.Expanded.{line}
use Rattle.ix_examples.specs.SmallGrammars.{literal}
use Rattle.ix_examples.specs.SmallTrees.{node_of}

-- ---- how the values are put together

abbrev pub flat : Kind → List (List Sym) → Flat
flat kind lines = record { kind = kind; lines = map line lines }

-- rules of a grammar whose only rule is S, without a mark
abbrev pub rules_with : List Flat → List Terminal → List (List ℕ) → Rules
rules_with flats terminals inserts = record { names = codes "S" ∷ []; marks = Element ∷ []; flats = flats; terminals = terminals; inserts = inserts }

-- without an insertion
abbrev pub rules_of : List Flat → List Terminal → Rules
rules_of flats terminals = rules_with flats terminals []

abbrev pub shown : ℕ → Sym
shown n = sym.Term n true

abbrev pub helper : ℕ → Sym
helper n = sym.Rule n None

abbrev pub range : ℕ → ℕ → CharRange
range low high = record { low = low; high = high }

-- the rule S, of one symbol
abbrev pub only : Sym → Flat
only x = flat kind.Named ((x ∷ []) ∷ [])

-- ---- rules

-- of S: "a".
abbrev pub a_rules : Rules
a_rules = rules_of (only (shown 0) ∷ []) (terminal.Lit (codes "a") ∷ [])

-- of S: +"x".
abbrev pub insert_rules : Rules
insert_rules = rules_with (only (sym.Insert 0) ∷ []) [] (codes "x" ∷ [])

-- of S: "a", +"x".
abbrev pub ax_rules : Rules
ax_rules = rules_with (flat kind.Named ((shown 0 ∷ sym.Insert 0 ∷ []) ∷ []) ∷ []) (terminal.Lit (codes "a") ∷ []) (codes "x" ∷ [])

-- one terminal, the set of these ranges
abbrev pub set_of : List CharRange → Rules
set_of ranges = rules_of [] (terminal.Set ranges ∷ [])

-- "a"?
abbrev pub a_option : Term
a_option = Opt (literal (codes "a"))

-- of S: "a"?.
abbrev pub option_rules : Rules
option_rules = rules_of (only (helper 1) ∷ flat kind.Opt ((shown 0 ∷ []) ∷ [] ∷ []) ∷ []) (terminal.Lit (codes "a") ∷ [])

-- of S: ("a"; "b").
abbrev pub group_rules : Rules
group_rules = rules_of (only (helper 1) ∷ flat kind.Group ((shown 0 ∷ []) ∷ (shown 1 ∷ []) ∷ []) ∷ []) (terminal.Lit (codes "a") ∷ terminal.Lit (codes "b") ∷ [])

-- "a"**","
abbrev pub a_list : Term
a_list = Star (literal (codes "a")) (Some (literal (codes ",")))

-- the helper for the items of "a"**","
abbrev pub items : Flat
items = flat kind.List ((shown 0 ∷ []) ∷ (helper 2 ∷ shown 1 ∷ shown 0 ∷ []) ∷ [])

-- of S: "a"**",".
abbrev pub list_rules : Rules
list_rules = rules_of (only (helper 1) ∷ flat kind.Star ([] ∷ (helper 2 ∷ []) ∷ []) ∷ items ∷ []) (terminal.Lit (codes "a") ∷ terminal.Lit (codes ",") ∷ [])

-- the same, with a star that has no empty alternative
abbrev pub never_empty : Rules
never_empty = rules_of (only (helper 1) ∷ flat kind.Star ((helper 2 ∷ []) ∷ []) ∷ items ∷ []) (terminal.Lit (codes "a") ∷ terminal.Lit (codes ",") ∷ [])

-- ---- plans

-- of S: "a". for a text
abbrev pub a_plan : List ℕ → Parts
a_plan s = record { rules = a_rules; slots = slot 0 0 0 ∷ slot 0 0 1 ∷ []; text = s }

-- of S: "a", +"x". for the text `a`
abbrev pub ax_plan : Parts
ax_plan = record { rules = ax_rules; slots = slot 0 0 0 ∷ slot 0 0 1 ∷ slot 0 0 2 ∷ []; text = codes "a" }

-- ---- trees

-- the only derivation of `a` under `S: "a".`
abbrev pub a_flat : FlatTree
a_flat = flat_node 0 0 (flats_and no_flat (flat_text 0 1))

-- the only derivation of the empty text under `S: +"x".`
abbrev pub insert_flat : FlatTree
insert_flat = flat_node 0 0 (flats_and no_flat flat_insertion)

-- `a,a` under `S: "a"**",".`
abbrev pub two_items : Tree
two_items = node_of 0 0 (list (again_after (one (text 0 1)) (text 1 2) (text 2 3)))

-- `a` under the helper for the items
abbrev pub first_item : FlatTree
first_item = flat_node 2 0 (flats_and no_flat (flat_text 0 1))

-- the same tree under the numbered rules: S, the star, and the list on its left side
abbrev pub two_items_flat : FlatTree
two_items_flat =
    flat_node 0 0 (flats_and no_flat
    (flat_node 1 1 (flats_and no_flat
    (flat_node 2 1 (flats_and (flats_and (flats_and no_flat first_item) (flat_text 1 2)) (flat_text 2 3))))))
