-- The grammar of the sample, written as a value.
-- log: line*. line: @n, -":", w, -#a. n: ["0"-"9"]+. w: ["a"-"z"]+.
use Rattle.std.specs.Prelude.{false, [], ◌∷◌, Some, None, codes}
use Rattle.ix_model.specs.declared.grammar.Grammar.{Grammar}
use Rattle.ix_model.specs.declared.grammar.Mark.TheVariants.{Attribute}
use Rattle.ix_model.specs.declared.grammar.TMark.TheVariants.{Deleted}
use Rattle.ix_model.specs.declared.grammar.Chars.TheVariants.{Code}
use Rattle.ix_model.specs.declared.grammar.Member.{Member}
use Rattle.ix_model.specs.declared.grammar.Member.TheVariants as member
use Rattle.ix_model.specs.declared.grammar.Bound.TheVariants as bound
use Rattle.ix_model.specs.declared.grammar.Term.{Term, One, Star, Plus}
use Rattle.ix_model.specs.declared.grammar.Factor.{Lit, Set, Call}
use Rattle.ix_examples.specs.SmallGrammars.{alternative, rule, grammar, deleted, call, marked_call, digits}

-- ["a"-"z"]
abbrev pub letters : Member
letters = member.Range (bound.Quoted 97) (bound.Quoted 122)

-- [member]+
abbrev pub some_of : Member → Term
some_of m = Plus (Set None false (m ∷ [])) None

abbrev pub sample_rules : Grammar
sample_rules = grammar (
    rule (codes "log") (alternative (Star (Call None (codes "line")) None ∷ []) ∷ [])
    ∷ rule (codes "line") (alternative (marked_call Attribute (codes "n") ∷ One (deleted (codes ":")) ∷ call (codes "w") ∷ One (Lit (Some Deleted) (Code (codes "a"))) ∷ []) ∷ [])
    ∷ rule (codes "n") (alternative (some_of digits ∷ []) ∷ [])
    ∷ rule (codes "w") (alternative (some_of letters ∷ []) ∷ []) ∷ [])
