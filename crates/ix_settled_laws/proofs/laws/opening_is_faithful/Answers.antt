use Rattle.ix_settled_laws.proofs.Beginning.{opening_faithful}
use Rattle.ix_settled_laws.proofs.laws.opening_is_faithful.Goals as goal

pub returns : goal.returns
returns c = opening_faithful
