use Rattle.ix_table.proofs.Tellings.{step_tells}
use Rattle.ix_table.proofs.laws.steps_tell.Goals as goal

pub returns : goal.returns
returns c = step_tells
