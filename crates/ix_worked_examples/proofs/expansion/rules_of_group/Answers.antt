use Rattle.ix_worked_examples.proofs.SmallRules.{expands_group, group_is_no_option}
use Rattle.ix_worked_examples.proofs.expansion.rules_of_group.Goals as goal

pub returns-clause-rules : goal.returns-clause-rules
returns-clause-rules c = expands_group

pub returns-clause-others : goal.returns-clause-others
returns-clause-others c = group_is_no_option
