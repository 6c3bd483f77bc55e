-- What holds of the fields of each bank, sound or not. It is this project's own.
use Rattle.std.specs.Prelude.{ℕ, List, Contains}
use Rattle.std.specs.declared.vec.Vec.{Vec}
use Rattle.indexmap.specs.IndexMap.{IndexMap}
use Rattle.ix_cluster.specs.declared.cluster.Cluster.{Cluster}
use Rattle.ix_cluster.specs.declared.cluster.Edge.{Edge as Arc}
use Rattle.ix_cluster.specs.declared.fact.Fact.{Fact}
use Rattle.ix_cluster.specs.declared.fact.Fact.TheVariants.{Called, Edge}
use Rattle.ix_cluster.specs.Handed.{IsKept}

-- with an edge the log has the call of its cluster
abbrev pub EdgesAreCalled : List Fact → Type 0
EdgesAreCalled log = (r k s l : ℕ) → Contains log (Edge r k s l) → Contains log (Called r k)

-- the lists and the count are those of the log, and each edge's cluster is called
pub record IsConsistent {A B S T : Type 0} (log : List Fact) (edges : IndexMap Cluster (Vec Arc A) S) (ends : IndexMap Cluster (Vec ℕ B) T) (handed : ℕ) : Type 0 where
  pub kept : IsKept log edges ends handed
  pub called : EdgesAreCalled log
