use Rattle.ix_tree_laws.proofs.Asym.{asym}
use Rattle.ix_tree_laws.proofs.laws.order_is_asymmetric.Goals as goal

pub returns : goal.returns
returns c = asym
