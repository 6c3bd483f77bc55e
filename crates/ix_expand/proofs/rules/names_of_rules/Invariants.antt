use Rattle.std.proofs.Common.{◌≡◌, map, take}
use Rattle.ix_model.specs.declared.grammar.Rule.{Rule}
use Rattle.ix_expand.proofs.rules.names_of_rules.Given as goal

abbrev pub invariant-loop-rule : goal.invariant-loop-rule
invariant-loop-rule l = l.names ≡ map (λ (rule : Rule). rule.name) (take l.rule-index l.rules)
