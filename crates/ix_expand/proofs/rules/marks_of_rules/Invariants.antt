use Rattle.std.proofs.Common.{◌≡◌, map, take, None}
use Rattle.ix_model.specs.declared.grammar.Rule.{Rule}
use Rattle.ix_model.specs.Documents.Bare.{effective}
use Rattle.ix_expand.proofs.rules.marks_of_rules.Given as goal

abbrev pub invariant-loop-rule : goal.invariant-loop-rule
invariant-loop-rule l = l.marks ≡ map (λ (rule : Rule). effective None rule.mark) (take l.rule-index l.rules)
