-- The pairs of an edge and an end of one cluster. It is this project's own.
use Rattle.std.specs.Prelude.{ℕ, ◌≡◌, ◌+◌, Bool, false, List, [], ◌∷◌, count_by}
use Rattle.std.specs.declared.vec.Vec.{Vec}
use Rattle.indexmap.specs.IndexMap.{IndexMap}
use Rattle.ix_cluster.specs.declared.cluster.Cluster.{Cluster}
use Rattle.ix_cluster.specs.declared.cluster.Edge.{Edge as Arc}
use Rattle.ix_cluster.specs.declared.fact.Fact.{Fact}
use Rattle.ix_cluster.specs.declared.fact.Fact.TheVariants.{Edge, End}
use Rattle.ix_cluster.specs.Lists.{cluster, same_cluster}
use Rattle.ix_cluster.specs.Listed.{AreListed}

-- whether the two are an edge and an end of one cluster
abbrev pub meets : Fact → Fact → Bool
meets (Edge r k s l) (End r' k' e) = same_cluster (cluster r k) (cluster r' k')
meets (End r k e) (Edge r' k' s l) = same_cluster (cluster r k) (cluster r' k')
meets _ _ = false

-- how many pairs of an edge and an end of one cluster the log has: over all clusters, the edges times the ends
abbrev pub pair_count : List Fact → ℕ
pair_count [] = 0
pair_count (f ∷ fs) = count_by (meets f) fs + pair_count fs

-- what holds of the fields of each bank
pub record IsKept {A B S T : Type 0} (log : List Fact) (edges : IndexMap Cluster (Vec Arc A) S) (ends : IndexMap Cluster (Vec ℕ B) T) (handed : ℕ) : Type 0 where
  pub listed : AreListed log edges ends
  pub counted : handed ≡ pair_count log
