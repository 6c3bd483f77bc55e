-- Small grammars whose texts are read from the left.
use Rattle.std.specs.Prelude.{[], ◌∷◌, None, codes}
use Rattle.ix_model.specs.declared.grammar.Grammar.{Grammar}
use Rattle.ix_model.specs.declared.grammar.Chars.TheVariants.{Code}
use Rattle.ix_model.specs.declared.grammar.Term.{One}
use Rattle.ix_model.specs.declared.grammar.Factor.{Lit}
use Rattle.ix_examples.specs.SmallGrammars.{alternative, rule, grammar, quoted, of_term}

-- S: "ab".
abbrev pub only_ab : Grammar
only_ab = of_term (quoted (codes "ab"))

-- S: "a", #a, "b".
abbrev pub two_lines : Grammar
two_lines = grammar (rule (codes "S") (alternative (quoted (codes "a") ∷ One (Lit None (Code (codes "a"))) ∷ quoted (codes "b") ∷ []) ∷ []) ∷ [])
