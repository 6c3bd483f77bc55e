-- Laws of what banks count and tell. It is this project's own.
use Rattle.std.specs.Prelude.{ℕ, ◌≡◌, ◌*◌, ◌≤◌, ◌⊎◌, List, length, fold, Contains}
use Rattle.std.specs.List.{IsDistinct, sum_by}
use Rattle.ix_cluster.specs.declared.cluster.Cluster.{Cluster}
use Rattle.ix_cluster.specs.declared.fact.Fact.{Fact}
use Rattle.ix_cluster.specs.declared.fact.Fact.TheVariants.{Edge, End, Desc}
use Rattle.ix_cluster.specs.Banks.{later_of}
use Rattle.ix_cluster.specs.Handed.{pair_count}
use Rattle.ix_cluster.specs.Lists.{cluster, same_cluster}
use Rattle.ix_cluster.specs.Steps.{edges_in, ends_in}

-- each cluster stands in the list once, and the clusters of the log's edges and ends are among them
pub record AreClustersOf (log : List Fact) (clusters : List Cluster) : Type 0 where
  pub once : IsDistinct same_cluster clusters
  pub edges : (r k s l : ℕ) → Contains log (Edge r k s l) → Contains clusters (cluster r k)
  pub ends : (r k e : ℕ) → Contains log (End r k e) → Contains clusters (cluster r k)

-- the edges of the cluster times its ends
abbrev pub edges_times_ends : List Fact → Cluster → ℕ
edges_times_ends log c = length (edges_in log c) * length (ends_in log c)

-- the pairs of a log are the sum, over its clusters, of edges times ends
abbrev pub PairsAreByCluster : Type 0
PairsAreByCluster = (log : List Fact) (clusters : List Cluster) → AreClustersOf log clusters → pair_count log ≡ sum_by (edges_times_ends log) clusters

-- the later of a position and those of some facts is no less than it, and no less than each descriptor's, and is one of these
pub record IsLaterOf (start : ℕ) (facts : List Fact) (pos : ℕ) : Type 0 where
  pub from : start ≤ pos
  pub upper : (s l p : ℕ) → Contains facts (Desc s l p) → p ≤ pos
  pub reached : (pos ≡ start) ⊎ ((s : ℕ) × (l : ℕ) × Contains facts (Desc s l pos))

-- to take the later again and again gives the greatest of the first position and those of the descriptors
abbrev pub LaterIsGreatest : Type 0
LaterIsGreatest = (facts : List Fact) (start : ℕ) → IsLaterOf start facts (fold later_of start facts)
