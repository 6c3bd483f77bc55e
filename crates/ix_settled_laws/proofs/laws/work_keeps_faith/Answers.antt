use Rattle.ix_settled_laws.proofs.Steps.{work_keeps}
use Rattle.ix_settled_laws.proofs.laws.work_keeps_faith.Goals as goal

pub returns : goal.returns
returns c = work_keeps
