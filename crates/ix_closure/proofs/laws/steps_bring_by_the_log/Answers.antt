use Rattle.ix_closure.proofs.Small.SmallSteps.{a_passes}
use Rattle.ix_closure.proofs.laws.steps_bring_by_the_log.Goals as goal

pub returns-clause-claim : goal.returns-clause-claim
returns-clause-claim c = a_passes
