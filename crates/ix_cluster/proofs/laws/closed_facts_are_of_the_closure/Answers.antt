use Rattle.std.proofs.Common.{arith, []}
use Rattle.ix_examples.specs.SmallPlans.{cycle}
use Rattle.ix_model.specs.Closure.Closed as closed
use Rattle.ix_closure_laws.proofs.ClosedWithin.{called_within}
use Rattle.ix_cluster.proofs.SmallBanks.{cycle_planned, first_begins}
use Rattle.ix_cluster.proofs.laws.closed_facts_are_of_the_closure.Goals as goal

pub returns-clause-called : goal.returns-clause-called
returns-clause-called c = closed.start

pub returns-clause-claim : goal.returns-clause-claim
returns-clause-claim c = closed.begun 0 0 0 closed.start first_begins

pub returns-clause-outside : goal.returns-clause-outside
returns-clause-outside c = λ h. omega (arith, (called_within (cycle []) cycle_planned 0 1 h).1)
