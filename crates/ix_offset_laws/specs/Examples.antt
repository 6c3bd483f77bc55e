-- Small plans and grammars, for the worked examples.
use Rattle.std.specs.Prelude.{ℕ, List, [], ◌∷◌, None, codes}
use Rattle.ix_model.specs.declared.rules.Kind.TheVariants as kind
use Rattle.ix_model.specs.declared.rules.Rules.{Rules}
use Rattle.ix_model.specs.declared.rules.Terminal.TheVariants as terminal
use Rattle.ix_model.specs.Expansion.Parts.{Parts}
use Rattle.ix_model.specs.Expansion.Numbering.{numbering}
use Rattle.ix_model.specs.declared.grammar.Grammar.{Grammar}
use Rattle.ix_model.specs.declared.grammar.Term.{Term, Plus}
use Rattle.ix_examples.specs.SmallGrammars.{grammar, rule, alternative, literal, quoted, call}
use Rattle.ix_examples.specs.SmallRules.{flat, rules_of, shown, helper, only}

-- the rules of S: "a"++",".
abbrev pub commas_rules : Rules
commas_rules = rules_of (only (helper 1) ∷ flat kind.List ((shown 0 ∷ []) ∷ (helper 1 ∷ shown 1 ∷ shown 0 ∷ []) ∷ []) ∷ []) (terminal.Lit (codes "a") ∷ terminal.Lit (codes ",") ∷ [])

-- their plan for a text: slots 0 and 1 are of S, 2 and 3 of the list that is one item, 4 to 7 of the list that is a list, a separator and an item
abbrev pub commas_plan : List ℕ → Parts
commas_plan s = record { rules = commas_rules; slots = numbering commas_rules.flats; text = s }

-- no rules
abbrev pub no_rules : List ℕ → Parts
no_rules s = record { rules = rules_of [] []; slots = []; text = s }

-- S: "a"; "b".
abbrev pub either : Grammar
either = grammar (rule (codes "S") (alternative (quoted (codes "a") ∷ []) ∷ alternative (quoted (codes "b") ∷ []) ∷ []) ∷ [])

-- S: A. A: "a". A: "b".
abbrev pub two_of_a_name : Grammar
two_of_a_name = grammar (
    rule (codes "S") (alternative (call (codes "A") ∷ []) ∷ [])
    ∷ rule (codes "A") (alternative (quoted (codes "a") ∷ []) ∷ [])
    ∷ rule (codes "A") (alternative (quoted (codes "b") ∷ []) ∷ []) ∷ [])

-- "a"+
abbrev pub a_plus : Term
a_plus = Plus (literal (codes "a")) None

-- of S: "a"+. for a text: slots 0 and 1 are of S, 2 and 3 of the list that is one item, 4 to 6 of the list that is a list and an item
abbrev pub plus_plan : List ℕ → Parts
plus_plan s =
    let flats = only (helper 1) ∷ flat kind.List ((shown 0 ∷ []) ∷ (helper 1 ∷ shown 0 ∷ []) ∷ []) ∷ [] in
    record { rules = rules_of flats (terminal.Lit (codes "a") ∷ []); slots = numbering flats; text = s }
