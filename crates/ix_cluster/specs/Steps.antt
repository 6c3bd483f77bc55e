-- The steps of a bank: what each appends to the log, and what it answers. It is this project's own.
use Rattle.std.specs.Prelude.{ℕ, Bool, false, not, List, [], if◌then◌else◌, Option, None, Some, fold}
use Rattle.std.specs.List.{filter_map}
use Rattle.ix_model.specs.declared.sub.Sub.{Sub}
use Rattle.ix_model.specs.Expansion.Parts.{Parts}
use Rattle.ix_cluster.specs.declared.cluster.Cluster.{Cluster}
use Rattle.ix_cluster.specs.declared.cluster.Edge.{Edge as Arc}
use Rattle.ix_cluster.specs.declared.fact.Fact.{Fact}
use Rattle.ix_cluster.specs.declared.fact.Fact.TheVariants.{Called, Edge, End, Desc, Part, Claim}
use Rattle.ix_cluster.specs.declared.answers.Claimed.{Claimed}
use Rattle.ix_cluster.specs.declared.answers.Claimed.TheVariants.{Mine, Taken, Unknown}
use Rattle.ix_cluster.specs.declared.answers.Arrived.{Arrived}
use Rattle.ix_cluster.specs.declared.answers.Arrived.TheVariants.{Fresh, Known}
use Rattle.ix_cluster.specs.Facts.{has, put}
use Rattle.ix_cluster.specs.Firsts.{firsts_of, is_at_end}
use Rattle.ix_cluster.specs.Lists.{cluster, same_cluster}

-- ---- a claim

-- whose the descriptor is: nobody's where it is not there, and the asker's where it was not claimed
abbrev pub claim_answer : List Fact → ℕ → ℕ → ℕ → Claimed
claim_answer log s l p = if has log (Desc s l p) then (if has log (Claim s l p) then Taken else Mine) else Unknown

-- a descriptor that is there is claimed
abbrev pub after_claim : List Fact → ℕ → ℕ → ℕ → List Fact
after_claim log s l p = if has log (Desc s l p) then put log (Claim s l p) else log

-- ---- an arrival

-- whether the subtree's descriptor is new
abbrev pub arrival_answer : List Fact → Sub → Arrived
arrival_answer log sub = if has log (Desc sub.slot sub.left sub.right) then Known else Fresh

-- the subtree is recorded, and then its descriptor
abbrev pub after_arrival : List Fact → Sub → List Fact
after_arrival log sub = put (put log (Part sub)) (Desc sub.slot sub.left sub.right)

-- ---- edges and ends of a cluster

-- the edge that the fact gives the cluster
abbrev pub edge_of : Cluster → Fact → Option Arc
edge_of c (Edge r k s l) = if same_cluster (cluster r k) c then Some (record { slot = s; left = l }) else None
edge_of c _ = None

-- the end that the fact gives the cluster
abbrev pub end_of : Cluster → Fact → Option ℕ
end_of c (End r k e) = if same_cluster (cluster r k) c then Some e else None
end_of c _ = None

-- the cluster's edges, in the order of the log
abbrev pub edges_in : List Fact → Cluster → List Arc
edges_in log c = filter_map (edge_of c) log

-- the cluster's ends, in the order of the log
abbrev pub ends_in : List Fact → Cluster → List ℕ
ends_in log c = filter_map (end_of c) log

-- ---- an end

-- a new end meets the edges of its cluster, and one that is there meets none again
abbrev pub end_answer : List Fact → ℕ → ℕ → ℕ → List Arc
end_answer log r k e = if has log (End r k e) then [] else edges_in log (cluster r k)

-- ---- a call

-- the empty subtree of an empty alternative with this slot
abbrev pub empty_sub : ℕ → ℕ → Sub
empty_sub s k = record { slot = s; left = k; pivot = k; right = k }

-- an alternative with this first slot begins at k: its descriptor is recorded, and the subtree of an empty one
abbrev pub after_first : Parts → ℕ → List Fact → ℕ → List Fact
after_first plan k log s = if is_at_end plan s then put (put log (Desc s k k)) (Part (empty_sub s k)) else put log (Desc s k k)

-- the alternatives with these first slots begin at k, in their order
abbrev pub after_firsts : Parts → ℕ → List ℕ → List Fact → List Fact
after_firsts plan k firsts log = fold (after_first plan k) log firsts

-- the rule is called at k, and its alternatives begin there, where it was not called before
abbrev pub after_call : Parts → List Fact → ℕ → ℕ → List Fact
after_call plan log r k = if has log (Called r k) then log else after_firsts plan k (firsts_of plan r) (put log (Called r k))

-- ---- an edge

-- a new edge calls its cluster, and is recorded
abbrev pub after_edge : Parts → List Fact → ℕ → ℕ → ℕ → ℕ → List Fact
after_edge plan log r k s l = if has log (Edge r k s l) then log else put (after_call plan log r k) (Edge r k s l)

-- whether a new edge calls a cluster that was not called before
abbrev pub edge_is_first : List Fact → ℕ → ℕ → ℕ → ℕ → Bool
edge_is_first log r k s l = if has log (Edge r k s l) then false else not (has log (Called r k))

-- a new edge meets the ends of its cluster, and one that is there meets none again
abbrev pub edge_answer : List Fact → ℕ → ℕ → ℕ → ℕ → List ℕ
edge_answer log r k s l = if has log (Edge r k s l) then [] else ends_in log (cluster r k)
