use Rattle.ix_settled_laws.proofs.Steps.{done_keeps}
use Rattle.ix_settled_laws.proofs.laws.done_keeps_faith.Goals as goal

pub returns : goal.returns
returns c = done_keeps
