-- Small grammars of one rule with any mark and any name, and files that spell them.
use Rattle.std.specs.Prelude.{ℕ, List, [], ◌∷◌, Option, codes}
use Rattle.ix_model.specs.declared.grammar.Grammar.{Grammar}
use Rattle.ix_model.specs.declared.grammar.Mark.{Mark}
use Rattle.ix_model.specs.declared.grammar.Term.{Term}
use Rattle.ix_examples.specs.SmallGrammars.{alternative, marked_rule, grammar, quoted}

-- the terms of "a"
abbrev pub a_alone : List Term
a_alone = quoted (codes "a") ∷ []

-- S: "a".   with this mark and this name
abbrev pub one_root : Option Mark → List ℕ → Grammar
one_root mark name = grammar (marked_rule mark name (alternative a_alone ∷ []) ∷ [])

-- S: "a"; "a".   with this mark and this name
abbrev pub two_roots : Option Mark → List ℕ → Grammar
two_roots mark name = grammar (marked_rule mark name (alternative a_alone ∷ alternative a_alone ∷ []) ∷ [])

-- a letter of ixml that begins no name of XML
abbrev pub ordinal : List ℕ
ordinal = 170 ∷ []

-- ª: "a".
abbrev pub ordinal_way : List ℕ
ordinal_way = 194 ∷ 170 ∷ codes ": \"a\"."

-- @S: "a"; "a".
abbrev pub attribute_ways : List ℕ
attribute_ways = codes "@S: \"a\"; \"a\"."

-- S: "a", #a, "b".
abbrev pub lines_way : List ℕ
lines_way = codes "S: \"a\", #a, \"b\"."
