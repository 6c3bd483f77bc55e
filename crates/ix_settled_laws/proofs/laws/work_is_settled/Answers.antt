use Rattle.ix_settled_laws.proofs.Whole.{work_settled}
use Rattle.ix_settled_laws.proofs.laws.work_is_settled.Goals as goal

pub returns : goal.returns
returns c = work_settled
