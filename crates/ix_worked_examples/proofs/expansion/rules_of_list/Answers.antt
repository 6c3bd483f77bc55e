use Rattle.ix_worked_examples.proofs.SmallRules.{expands_list, star_may_be_empty}
use Rattle.ix_worked_examples.proofs.expansion.rules_of_list.Goals as goal

pub returns-clause-rules : goal.returns-clause-rules
returns-clause-rules c = expands_list

pub returns-clause-never_empty : goal.returns-clause-never_empty
returns-clause-never_empty c = star_may_be_empty
