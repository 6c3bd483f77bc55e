-- Plans that tests run on, beside those of the worked examples.
use Rattle.std.specs.Prelude.{ℕ, List, [], ◌∷◌, map, codes, replicate}
use Rattle.ix_model.specs.declared.grammar.Mark.TheVariants.{Element}
use Rattle.ix_model.specs.declared.plan.SlotInfo.{SlotInfo}
use Rattle.ix_model.specs.declared.rules.Flat.{Flat}
use Rattle.ix_model.specs.declared.rules.Kind.TheVariants.{Group, List as Repeated}
use Rattle.ix_model.specs.declared.rules.Sym.{Sym}
use Rattle.ix_model.specs.declared.rules.Terminal.{Terminal}
use Rattle.ix_model.specs.declared.rules.Terminal.TheVariants as terminal
use Rattle.ix_model.specs.Expansion.Parts.{Parts}
use Rattle.ix_model.specs.Expansion.Expanded.{line}
use Rattle.ix_examples.specs.SmallPlans.{call, literal, named, plan_of}

-- these literals of one character
abbrev pub literals_of : List ℕ → List Terminal
literals_of cs = map (λ c. terminal.Lit (c ∷ [])) cs

-- these rules, of which only the first has a name, with these slots
abbrev pub parts_of : ℕ → List Flat → List SlotInfo → List Terminal → List ℕ → Parts
parts_of name flats slots terminals text = record {
  rules = record { names = (name ∷ []) ∷ []; marks = Element ∷ []; flats = flats; terminals = terminals; inserts = [] };
  slots = slots;
  text = text;
}

-- of S with two alternatives, this symbol and "a"
abbrev pub by_two : Sym → List ℕ → Parts
by_two first = plan_of (codes "S" ∷ []) (named ((first ∷ []) ∷ (literal 0 ∷ []) ∷ []) ∷ []) (terminal.Lit (codes "a") ∷ []) []

-- of E: E, "+", E; "1".
abbrev pub sums : List ℕ → Parts
sums = plan_of (codes "E" ∷ []) (named ((call 0 ∷ literal 0 ∷ call 0 ∷ []) ∷ (literal 1 ∷ []) ∷ []) ∷ []) (terminal.Lit (codes "+") ∷ terminal.Lit (codes "1") ∷ []) []

-- the rules of S: ()+.
abbrev pub repeated_flats : List Flat
repeated_flats =
    named ((call 1 ∷ []) ∷ [])
    ∷ record { kind = Repeated; lines = map line ((call 2 ∷ []) ∷ (call 1 ∷ call 2 ∷ []) ∷ []) }
    ∷ record { kind = Group; lines = map line ([] ∷ []) }
    ∷ []

-- of S: ()+. on the empty text
abbrev pub repeated_nothing : Parts
repeated_nothing = plan_of (codes "S" ∷ []) repeated_flats (terminal.Lit (codes "a") ∷ []) [] []

-- of S: S, "a"; . on n times `a`
abbrev pub left_recursive : ℕ → Parts
left_recursive n = plan_of (codes "S" ∷ []) (named ((call 0 ∷ literal 0 ∷ []) ∷ [] ∷ []) ∷ []) (terminal.Lit (codes "a") ∷ []) [] (replicate n 97)
