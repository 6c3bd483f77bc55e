-- Each edge's cluster is called, as facts are recorded.
use Rattle.std.proofs.Common.{◌≡◌, ◌≢◌, ℕ, Bool, true, false, cond, List, [], Contains, sym, ◌∙◌, subst, ◌⊎◌, inl, inr}
use Rattle.ix_model.specs.declared.sub.Sub.{Sub}
use Rattle.ix_model.specs.Expansion.Parts.{Parts}
use Rattle.ix_cluster.specs.declared.fact.Fact.{Fact}
use Rattle.ix_cluster.specs.declared.fact.Fact.TheVariants.{Called, Edge, End, Desc, Part, Claim}
use Rattle.ix_cluster.specs.Consistent.{EdgesAreCalled}
use Rattle.ix_cluster.specs.Facts.{has, put}
use Rattle.ix_cluster.specs.Steps.{after_call, after_claim, after_arrival}
use Rattle.ix_cluster.proofs.Calls.{call-keeps, call-there}
use Rattle.ix_cluster.proofs.Listing.{has-call_edge}
use Rattle.ix_cluster.proofs.Members.{put-keeps, put-from, has-Contains, Contains-has, none_has}

pub called-none_yet : EdgesAreCalled []
called-none_yet r k s l h = absurd (none_has (Edge r k s l) h)

-- a fact that is no edge
called-put : (log : List Fact) (f : Fact) → ((r k s l : ℕ) → f ≢ Edge r k s l) → EdgesAreCalled log → EdgesAreCalled (put log f)
called-put log f other called r k s l h = by (put-from log f (Edge r k s l) h)
  where
    by : Contains log (Edge r k s l) ⊎ (f ≡ Edge r k s l) → Contains (put log f) (Called r k)
    by (inl o) = put-keeps log f (Called r k) (called r k s l o)
    by (inr e) = absurd (other r k s l e)

pub called-claim : (log : List Fact) (s l p : ℕ) → EdgesAreCalled log → EdgesAreCalled (after_claim log s l p)
called-claim log s l p called = by (has log (Desc s l p))
  where
    by : (b : Bool) → EdgesAreCalled (cond b (put log (Claim s l p)) log)
    by true = called-put log (Claim s l p) (λ _ _ _ _ e. cc e) called
    by false = called

pub called-arrive : (log : List Fact) (sub : Sub) → EdgesAreCalled log → EdgesAreCalled (after_arrival log sub)
called-arrive log sub called = called-put (put log (Part sub)) (Desc sub.slot sub.left sub.right) (λ _ _ _ _ e. cc e) (called-put log (Part sub) (λ _ _ _ _ e. cc e) called)

pub called-end : (log : List Fact) (r k x : ℕ) → EdgesAreCalled log → EdgesAreCalled (put log (End r k x))
called-end log r k x called = called-put log (End r k x) (λ _ _ _ _ e. cc e) called

module _ (plan : Parts) (log : List Fact) (r k : ℕ) (called : EdgesAreCalled log) where
  pub called-call : EdgesAreCalled (after_call plan log r k)
  called-call r' k' s' l' h =
      let old = Contains-has log (Edge r' k' s' l') (sym (has-call_edge r' k' s' l' plan log r k) ∙ has-Contains (after_call plan log r k) (Edge r' k' s' l') h) in
      call-keeps plan log r k (Called r' k') (called r' k' s' l' old)

  -- the cluster of a new edge is called before
  pub called-edge : (s l : ℕ) → EdgesAreCalled (put (after_call plan log r k) (Edge r k s l))
  called-edge s l r' k' s' l' h = by (put-from (after_call plan log r k) (Edge r k s l) (Edge r' k' s' l') h)
    where
      by : Contains (after_call plan log r k) (Edge r' k' s' l') ⊎ (Edge r k s l ≡ Edge r' k' s' l') → Contains (put (after_call plan log r k) (Edge r k s l)) (Called r' k')
      by (inl o) = put-keeps (after_call plan log r k) (Edge r k s l) (Called r' k') (called-call r' k' s' l' o)
      by (inr e) =
          let rule : r ≡ r' = (cc) in
          let at : k ≡ k' = (cc) in
          put-keeps (after_call plan log r k) (Edge r k s l) (Called r' k') (subst (λ z. Contains (after_call plan log r k) (Called z k')) rule (subst (λ z. Contains (after_call plan log r k) (Called r z)) at (call-there plan log r k)))

  -- where an edge is there, a call of its cluster changes nothing
  pub called-again : (s l : ℕ) → has log (Edge r k s l) ≡ true → has log (Called r k) ≡ true
  called-again s l h = has-Contains log (Called r k) (called r k s l (Contains-has log (Edge r k s l) h))
