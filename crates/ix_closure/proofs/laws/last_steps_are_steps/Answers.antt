use Rattle.ix_closure.proofs.Closing.LastSteps.{last_runs}
use Rattle.ix_closure.proofs.laws.last_steps_are_steps.Goals as goal

pub returns : goal.returns
returns c = last_runs
