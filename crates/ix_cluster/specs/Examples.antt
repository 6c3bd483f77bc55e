-- Small maps of lists by cluster, for worked examples. It is this project's own.
use denote.RawPtr.{null_ptr}
use Rattle.std.specs.Prelude.{ℕ, ◌≤◌, List, [], ◌∷◌, length}
use Rattle.std.specs.declared.vec.Vec.{Vec}
use Rattle.std.proofs.Common.{refl, lit<, lit≤}
use Rattle.indexmap.specs.IndexMap.{IndexMap}
use Rattle.indexmap.specs.Layout.{hash_map}
use Rattle.ix_cluster.specs.declared.cluster.Cluster.{Cluster}
use Rattle.ix_cluster.specs.declared.cluster.Edge.{Edge}
use Rattle.ix_cluster.specs.Lists.{cluster}

-- these elements in memory, with room for 4
abbrev pub vec_of : {X : Type 0} → (xs : List X) → length xs ≤ 4 → Vec X (Unit {0})
vec_of xs few = record { ptr = null_ptr; len = length xs; cap = 4; alloc = tt; items = xs; ok = (refl, few); small = lit< tt }

-- the lists of rule 0 at 0 and at 1, and of no other cluster
abbrev pub lists_of : {X : Type 0} → Vec X (Unit {0}) → Vec X (Unit {0}) → IndexMap Cluster (Vec X (Unit {0})) (Unit {0})
lists_of first second = hash_map ((cluster 0 0, first) ∷ (cluster 0 1, second) ∷ []) tt 0

-- the end 1 at the first, and the end 4 at the second
abbrev pub two_ends : IndexMap Cluster (Vec ℕ (Unit {0})) (Unit {0})
two_ends = lists_of (vec_of (1 ∷ []) (lit≤ tt)) (vec_of (4 ∷ []) (lit≤ tt))

-- the ends 1 and 2 at the first, and the end 4 at the second
abbrev pub three_ends : IndexMap Cluster (Vec ℕ (Unit {0})) (Unit {0})
three_ends = lists_of (vec_of (1 ∷ 2 ∷ []) (lit≤ tt)) (vec_of (4 ∷ []) (lit≤ tt))

-- an edge at the first, and a list of none at the second
abbrev pub one_edge : IndexMap Cluster (Vec Edge (Unit {0})) (Unit {0})
one_edge = lists_of (vec_of (record { slot = 2; left = 0 } ∷ []) (lit≤ tt)) (vec_of [] (lit≤ tt))

-- no list at all
abbrev pub no_ends : IndexMap Cluster (Vec ℕ (Unit {0})) (Unit {0})
no_ends = hash_map [] tt 0

-- a list of none at each
abbrev pub empty_lists : IndexMap Cluster (Vec ℕ (Unit {0})) (Unit {0})
empty_lists = lists_of (vec_of [] (lit≤ tt)) (vec_of [] (lit≤ tt))

-- at the first as many ends as there is room for, and none at the second
abbrev pub full_ends : IndexMap Cluster (Vec ℕ (Unit {0})) (Unit {0})
full_ends = lists_of (vec_of (1 ∷ 2 ∷ 3 ∷ 4 ∷ []) (lit≤ tt)) (vec_of [] (lit≤ tt))
