use Rattle.ix_worked_examples.proofs.SmallRules.{plan_of_a, option_has_helper}
use Rattle.ix_worked_examples.proofs.expansion.plan_of_grammar.Goals as goal

pub returns-clause-plan : goal.returns-clause-plan
returns-clause-plan c = plan_of_a

pub returns-clause-other_grammar : goal.returns-clause-other_grammar
returns-clause-other_grammar c = λ p. option_has_helper p.expanded
