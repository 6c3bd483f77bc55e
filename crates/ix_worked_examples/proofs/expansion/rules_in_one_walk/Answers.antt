use Rattle.ix_worked_examples.proofs.ManyHelpers.{expands_many}
use Rattle.ix_worked_examples.proofs.expansion.rules_in_one_walk.Goals as goal

pub returns-clause-rules : goal.returns-clause-rules
returns-clause-rules c = expands_many
