-- Small numbered rules that are nested, or not: what the worked examples speak of.
use Rattle.std.specs.Prelude.{List, [], ◌∷◌, codes}
use Rattle.ix_model.specs.declared.rules.Kind.TheVariants as kind
use Rattle.ix_model.specs.declared.rules.Sym.{Sym}
use Rattle.ix_model.specs.declared.rules.Rules.{Rules}
use Rattle.ix_model.specs.declared.rules.Terminal.TheVariants as terminal
use Rattle.ix_examples.specs.SmallRules.{flat, helper, only, rules_of, shown}

-- S leads to a list of these alternatives
abbrev pub list_with : List (List Sym) → Rules
list_with lines = rules_of (only (helper 1) ∷ flat kind.List lines ∷ []) (terminal.Lit (codes "a") ∷ [])

-- S leads to a group whose second alternative is this symbol
abbrev pub group_with : Sym → Rules
group_with x = rules_of (only (helper 1) ∷ flat kind.Group ((shown 0 ∷ []) ∷ (x ∷ []) ∷ []) ∷ []) (terminal.Lit (codes "a") ∷ [])

-- S leads to a list whose second alternative begins with a group that comes before it
abbrev pub backward : Rules
backward =
    rules_of (only (helper 2) ∷ flat kind.Group ((shown 0 ∷ []) ∷ []) ∷ flat kind.List ((shown 0 ∷ []) ∷ (helper 1 ∷ shown 0 ∷ []) ∷ []) ∷ [])
    (terminal.Lit (codes "a") ∷ [])
