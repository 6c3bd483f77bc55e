-- The steps of a bank as one relation: the log before, the call, its answer and the log after. It is this project's own.
use Rattle.std.specs.Prelude.{ℕ, ◌≡◌, Bool, true, false, List, [], ◌∷◌, ◌++◌}
use Rattle.ix_model.specs.declared.sub.Sub.{Sub}
use Rattle.ix_model.specs.Expansion.Parts.{Parts}
use Rattle.ix_cluster.specs.declared.answers.Arrived.{Arrived}
use Rattle.ix_cluster.specs.declared.answers.Arrived.TheVariants.{Fresh, Known}
use Rattle.ix_cluster.specs.declared.answers.Claimed.{Claimed}
use Rattle.ix_cluster.specs.declared.answers.Claimed.TheVariants.{Mine, Taken, Unknown}
use Rattle.ix_cluster.specs.declared.cluster.Edge.{Edge as Arc}
use Rattle.ix_cluster.specs.declared.fact.Fact.{Fact}
use Rattle.ix_cluster.specs.declared.fact.Fact.TheVariants.{Called, Edge, End, Desc, Part, Claim}
use Rattle.ix_cluster.specs.Facts.{has, put}
use Rattle.ix_cluster.specs.Firsts.{firsts_of}
use Rattle.ix_cluster.specs.Lists.{cluster}
use Rattle.ix_cluster.specs.Steps.{after_firsts, edges_in, ends_in}

-- a call that makes a step
pub data Call : Type 0 where
  -- the cluster of r at k is to have the edge to slot s, whose own rule was called at l
  AddEdge : (r k s l : ℕ) → Call
  -- the cluster of r at k is to have the end e
  AddEnd : (r k e : ℕ) → Call
  -- the subtree is to be recorded, with its descriptor
  Arrive : (sub : Sub) → Call
  -- the descriptor is to be claimed
  MakeClaim : (s l p : ℕ) → Call

-- what the call of each kind answers
pub data Answer : Type 0 where
  -- whether the edge called its cluster, and the ends that it meets
  Opens : (first : Bool) (ends : List ℕ) → Answer
  -- the edges that the end meets
  Meets : (edges : List Arc) → Answer
  -- whether the descriptor was new
  Arrives : (arrived : Arrived) → Answer
  -- whose the descriptor is
  Belongs : (claimed : Claimed) → Answer

module _ (plan : Parts) (log : List Fact) where
  -- the call meets this log, is answered so, and leaves that log: each new fact is appended, and a fact that is there is not
  pub data BankStep : Call → Answer → List Fact → Type 0 where
    -- the first edge of a cluster calls it, so that its alternatives begin, and is appended last; it meets the ends in the order
    -- of the log
    edge_calls : (r k s l : ℕ) → has log (Edge r k s l) ≡ false → has log (Called r k) ≡ false
        → BankStep (AddEdge r k s l) (Opens true (ends_in log (cluster r k))) (after_firsts plan k (firsts_of plan r) (log ++ Called r k ∷ []) ++ Edge r k s l ∷ [])
    -- any other new edge is appended alone, and meets them too
    edge_joins : (r k s l : ℕ) → has log (Edge r k s l) ≡ false → has log (Called r k) ≡ true
        → BankStep (AddEdge r k s l) (Opens false (ends_in log (cluster r k))) (log ++ Edge r k s l ∷ [])
    -- an edge that is there meets none again
    edge_again : (r k s l : ℕ) → has log (Edge r k s l) ≡ true → BankStep (AddEdge r k s l) (Opens false []) log
    -- a new end is appended, and meets the edges of its cluster in the order of the log
    end_comes : (r k e : ℕ) → has log (End r k e) ≡ false → BankStep (AddEnd r k e) (Meets (edges_in log (cluster r k))) (log ++ End r k e ∷ [])
    -- an end that is there meets none again
    end_again : (r k e : ℕ) → has log (End r k e) ≡ true → BankStep (AddEnd r k e) (Meets []) log
    -- a subtree that is new is appended, and then its descriptor where that is new
    sub_fresh : (sub : Sub) → has log (Desc sub.slot sub.left sub.right) ≡ false
        → BankStep (Arrive sub) (Arrives Fresh) (put log (Part sub) ++ Desc sub.slot sub.left sub.right ∷ [])
    sub_known : (sub : Sub) → has log (Desc sub.slot sub.left sub.right) ≡ true → BankStep (Arrive sub) (Arrives Known) (put log (Part sub))
    -- a claim is the mark of a descriptor that is there, which stays
    claim_mine : (s l p : ℕ) → has log (Desc s l p) ≡ true → has log (Claim s l p) ≡ false → BankStep (MakeClaim s l p) (Belongs Mine) (log ++ Claim s l p ∷ [])
    -- and is not made again
    claim_taken : (s l p : ℕ) → has log (Desc s l p) ≡ true → has log (Claim s l p) ≡ true → BankStep (MakeClaim s l p) (Belongs Taken) log
    -- without its descriptor there is none
    claim_unknown : (s l p : ℕ) → has log (Desc s l p) ≡ false → BankStep (MakeClaim s l p) (Belongs Unknown) log
