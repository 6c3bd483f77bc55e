use Rattle.ix_settled_laws.proofs.Settling.{settled_closure}
use Rattle.ix_settled_laws.proofs.laws.settled_is_closure.Goals as goal

pub returns : goal.returns
returns c = settled_closure
