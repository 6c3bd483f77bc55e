use Rattle.ix_cluster.proofs.Furthest.{later_is_greatest}
use Rattle.ix_cluster.proofs.laws.later_is_greatest.Goals as goal

pub returns : goal.returns
returns c = later_is_greatest
