use Rattle.std.proofs.Common.{subst}
use Rattle.ix_model.specs.Expansion.Planned.{IsPlanned}
use Rattle.ix_model.proofs.Readers.{next_is}
use Rattle.ix_model.proofs.plan.Plan.next.Goals as goal

pub returns-clause-dot : goal.returns-clause-dot
returns-clause-dot c = next_is _ (subst IsPlanned c.self.view_is c.self.invariant) c.args.slot c.requires.slot c.requires.symbol
