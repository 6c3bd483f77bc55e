-- A grammar whose text has derivations and no first one: two of its rules have one name.
use Rattle.std.specs.Prelude.{ℕ, [], ◌∷◌, codes}
use Rattle.ix_model.specs.declared.grammar.Grammar.{Grammar}
use Rattle.ix_model.specs.declared.grammar.Rule.{Rule}
use Rattle.ix_model.specs.Derivations.Trees.{Tree, text}
use Rattle.ix_examples.specs.SmallGrammars.{alternative, rule, grammar, quoted, call}
use Rattle.ix_examples.specs.SmallTrees.{node_of}

-- A: "a".
abbrev pub a_rule : Rule
a_rule = rule (codes "A") (alternative (quoted (codes "a") ∷ []) ∷ [])

-- S: A. A: "a". A: "a".
abbrev pub rivals : Grammar
rivals = grammar (rule (codes "S") (alternative (call (codes "A") ∷ []) ∷ []) ∷ a_rule ∷ a_rule ∷ [])

-- `a` by the rule r
abbrev pub by_rule : ℕ → Tree
by_rule r = node_of 0 0 (node_of r 0 (text 0 1))
