-- Lists that a map keeps by cluster. It is this project's own.
use Rattle.std.specs.Prelude.{ℕ, ◌≡◌, ◌<◌, Bool, ◌&&◌, ◌==◌, List, [], ◌∷◌, ◌++◌, if◌then◌else◌, Some, slice_get, vec_len, vec_capacity}
use Rattle.std.specs.declared.vec.Vec.{Vec}
use Rattle.std.specs.Option.{option_map_or}
use Rattle.indexmap.specs.IndexMap.{IndexMap, get}
use Rattle.ix_cluster.specs.declared.cluster.Cluster.{Cluster}

-- the cluster of the rule at the position
abbrev pub cluster : ℕ → ℕ → Cluster
cluster r k = record { rule = r; at = k }

-- whether two clusters are the same
abbrev pub same_cluster : Cluster → Cluster → Bool
same_cluster a b = (a.rule == b.rule) && (a.at == b.at)

module _ {T A S : Type 0} where
  -- the list of the cluster, which is empty where the map has none
  abbrev pub list_at : IndexMap Cluster (Vec T A) S → Cluster → List T
  list_at m c = option_map_or (λ v. v.items) (get same_cluster m c) []

  -- the new map has x at the end of the cluster's list, and each other list is the old one
  abbrev pub PushesAt : IndexMap Cluster (Vec T A) S → Cluster → T → IndexMap Cluster (Vec T A) S → Type 0
  PushesAt old c x new = (d : Cluster) → list_at new d ≡ (if same_cluster c d then list_at old d ++ x ∷ [] else list_at old d)

  -- each list stays
  abbrev pub KeepsLists : IndexMap Cluster (Vec T A) S → IndexMap Cluster (Vec T A) S → Type 0
  KeepsLists old new = (d : Cluster) → list_at new d ≡ list_at old d

  -- the list at the place is the cluster's, and has room for one more
  pub record IsPlaceFor (m : IndexMap Cluster (Vec T A) S) (c : Cluster) (place : ℕ) : Type 0 where
    pub list : Vec T A
    pub at : slice_get m.entries place ≡ Some (c, list)
    pub room : vec_len list < vec_capacity list
