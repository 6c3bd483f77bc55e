-- Grammars and made parts that the worked examples and the tests speak of.
use Rattle.std.specs.Prelude.{ℕ, false, List, [], ◌∷◌, Some, None, codes}
use Rattle.ix_model.specs.declared.grammar.Grammar.{Grammar}
use Rattle.ix_model.specs.declared.grammar.Mark.TheVariants.{Attribute, Hidden}
use Rattle.ix_model.specs.declared.grammar.TMark.TheVariants.{Deleted}
use Rattle.ix_model.specs.declared.grammar.Member.{Member}
use Rattle.ix_model.specs.declared.grammar.Member.TheVariants as member
use Rattle.ix_model.specs.declared.grammar.Bound.TheVariants as bound
use Rattle.ix_model.specs.declared.grammar.Chars.TheVariants.{Code}
use Rattle.ix_model.specs.declared.grammar.Term.{Term, One, Opt, Star, Plus}
use Rattle.ix_model.specs.declared.grammar.Factor.{Factor, Lit, Set, Call, Group}
use Rattle.ix_examples.specs.SmallGrammars.{alternative, rule, marked_rule, grammar, literal, quoted, deleted, inserted, call, marked_call, digits}
use Rattle.ix_expand.specs.declared.made.Made.{Made}

-- a call without a mark
abbrev pub called : List ℕ → Factor
called name = Call None name

-- the set of these members
abbrev pub set : List Member → Factor
set members = Set None false members

-- log: line*. line: @n, -":", w, -#a. n: ["0"-"9"]+. w: ["a"-"z"]+.
abbrev pub sample : Grammar
sample = grammar (
    rule (codes "log") (alternative (Star (called (codes "line")) None ∷ []) ∷ [])
    ∷ rule (codes "line") (alternative (marked_call Attribute (codes "n") ∷ One (deleted (codes ":")) ∷ call (codes "w") ∷ One (Lit (Some Deleted) (Code (codes "a"))) ∷ []) ∷ [])
    ∷ rule (codes "n") (alternative (Plus (set (digits ∷ [])) None ∷ []) ∷ [])
    ∷ rule (codes "w") (alternative (Plus (set (member.Range (bound.Quoted 97) (bound.Quoted 122) ∷ [])) None ∷ []) ∷ []) ∷ [])

-- S: (a; b?)**c. a: "1". b: "2". c: "3".
abbrev pub separated_groups : Grammar
separated_groups = grammar (
    rule (codes "S") (alternative (Star (Group (alternative (call (codes "a") ∷ []) ∷ alternative (Opt (called (codes "b")) ∷ []) ∷ [])) (Some (called (codes "c"))) ∷ []) ∷ [])
    ∷ rule (codes "a") (alternative (quoted (codes "1") ∷ []) ∷ [])
    ∷ rule (codes "b") (alternative (quoted (codes "2") ∷ []) ∷ [])
    ∷ rule (codes "c") (alternative (quoted (codes "3") ∷ []) ∷ []) ∷ [])

-- ("c"; T)
abbrev pub small_group : Term
small_group = One (Group (alternative (quoted (codes "c") ∷ []) ∷ alternative (call (codes "T") ∷ []) ∷ []))

-- "a", -["b"], +"i", @T, ("c"; T)
abbrev pub plain_forms : List Term
plain_forms =
    quoted (codes "a") ∷ One (Set (Some Deleted) false (member.Quoted (codes "b") ∷ [])) ∷ inserted (codes "i") ∷ marked_call Attribute (codes "T") ∷ small_group ∷ []

-- "d"?, "e"+, "f"++",", "g"*, "h"**-";"
abbrev pub repeating_forms : List Term
repeating_forms =
    Opt (literal (codes "d")) ∷ Plus (literal (codes "e")) None ∷ Plus (literal (codes "f")) (Some (literal (codes ",")))
    ∷ Star (literal (codes "g")) None ∷ Star (literal (codes "h")) (Some (deleted (codes ";"))) ∷ []

-- S: the plain forms; the repeating forms. -T: "t".
abbrev pub each_form : Grammar
each_form = grammar (
    rule (codes "S") (alternative plain_forms ∷ alternative repeating_forms ∷ [])
    ∷ marked_rule (Some Hidden) (codes "T") (alternative (quoted (codes "t") ∷ []) ∷ []) ∷ [])

-- nothing is made yet, where one rule has a name
abbrev pub unmade : Made
unmade = record { first = 1; flats = []; terminals = []; inserts = [] }
