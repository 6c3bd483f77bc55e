use Rattle.ix_settled_laws.proofs.Steps.{done_closed}
use Rattle.ix_settled_laws.proofs.laws.done_owes_closed.Goals as goal

pub returns : goal.returns
returns c = done_closed
