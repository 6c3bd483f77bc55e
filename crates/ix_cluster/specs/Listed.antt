-- The lists that a bank keeps by cluster are those of its log. It is this project's own.
use Rattle.std.specs.Prelude.{ℕ, ◌≡◌, List}
use Rattle.std.specs.declared.vec.Vec.{Vec}
use Rattle.indexmap.specs.IndexMap.{IndexMap}
use Rattle.ix_cluster.specs.declared.cluster.Cluster.{Cluster}
use Rattle.ix_cluster.specs.declared.cluster.Edge.{Edge as Arc}
use Rattle.ix_cluster.specs.declared.fact.Fact.{Fact}
use Rattle.ix_cluster.specs.Lists.{list_at}
use Rattle.ix_cluster.specs.Steps.{edges_in, ends_in}

-- each cluster has the edges and the ends of the log
pub record AreListed {A B S T : Type 0} (log : List Fact) (edges : IndexMap Cluster (Vec Arc A) S) (ends : IndexMap Cluster (Vec ℕ B) T) : Type 0 where
  pub edges_listed : (c : Cluster) → list_at edges c ≡ edges_in log c
  pub ends_listed : (c : Cluster) → list_at ends c ≡ ends_in log c
