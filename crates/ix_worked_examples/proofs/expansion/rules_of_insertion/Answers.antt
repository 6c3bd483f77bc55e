use Rattle.ix_worked_examples.proofs.SmallRules.{expands_insertion, insertion_of_y}
use Rattle.ix_worked_examples.proofs.expansion.rules_of_insertion.Goals as goal

pub returns-clause-rules : goal.returns-clause-rules
returns-clause-rules c = expands_insertion

pub returns-clause-others : goal.returns-clause-others
returns-clause-others c = insertion_of_y
