use Rattle.ix_settled_laws.proofs.Steps.{step_of_owed}
use Rattle.ix_settled_laws.proofs.laws.table_does_owed_steps.Goals as goal

pub returns : goal.returns
returns c = step_of_owed
