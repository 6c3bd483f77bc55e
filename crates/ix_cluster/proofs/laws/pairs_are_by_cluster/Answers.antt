use Rattle.ix_cluster.proofs.Pairs.{pairs_are_by_cluster}
use Rattle.ix_cluster.proofs.laws.pairs_are_by_cluster.Goals as goal

pub returns : goal.returns
returns c = pairs_are_by_cluster
