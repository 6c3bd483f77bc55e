use Rattle.ix_closure.proofs.Adopting.MissingSteps.{nothing_owed}
use Rattle.ix_closure.proofs.state.Core.adopt.Goals as goal

pub returns-in-Ok-clause-nothing : goal.returns-in-Ok-clause-nothing
returns-in-Ok-clause-nothing c = nothing_owed c.args.plan.now (record { banks = c.args.banks.banks.items; owed = c.in-Ok.owed.items }) c.in-Ok.ensures
