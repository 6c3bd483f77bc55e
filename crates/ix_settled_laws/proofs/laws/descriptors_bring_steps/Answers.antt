use Rattle.ix_closure.proofs.Small.SmallSteps.{nothing_ends}
use Rattle.ix_settled_laws.proofs.laws.descriptors_bring_steps.Goals as goal

pub returns-clause-end : goal.returns-clause-end
returns-clause-end c = nothing_ends
