use Rattle.ix_worked_examples.proofs.SmallRules.{expands_option, option_is_no_group}
use Rattle.ix_worked_examples.proofs.expansion.rules_of_option.Goals as goal

pub returns-clause-rules : goal.returns-clause-rules
returns-clause-rules c = expands_option

pub returns-clause-others : goal.returns-clause-others
returns-clause-others c = option_is_no_group
