-- What becomes due when facts are recorded.
use Rattle.std.proofs.Common.{ℕ, [], ◌∷◌, Option, ◌⊎◌, inl, inr}
use Rattle.ix_model.specs.Closure.Useful.{sub_at}
use Rattle.ix_model.specs.declared.grammar.Mark.{Mark}
use Rattle.ix_model.specs.declared.rules.Sym.TheVariants as sy
use Rattle.ix_model.specs.Expansion.Parts.{Parts}
use Rattle.ix_model.specs.Expansion.SlotPlaces.{HasNext}
use Rattle.ix_cluster.specs.declared.fact.Fact.{Fact}
use Rattle.ix_cluster.specs.declared.fact.Fact.TheVariants as fact
use Rattle.ix_closure.specs.declared.owed.Owed.{Owed}
use Rattle.ix_closure.specs.declared.owed.Owed.TheVariants.{Claim, Edge, End, Arrive}
use Rattle.ix_closure.specs.Due.{IsDue, claim, passed, inserted, waits, ends, meets}
use Rattle.ix_closure.specs.Follows.{FollowsDesc}
use Rattle.ix_closure.specs.Follows as follows

module _ (plan : Parts) (New After : Fact → Type 0) where
  -- the step follows from a new fact, and perhaps another
  pub data IsNewlyDue : Owed → Type 0 where
    by_desc : (s l p : ℕ) → New (fact.Desc s l p) → IsNewlyDue (Claim s l p)
    by_claim : (s l p : ℕ) (o : Owed) → New (fact.Claim s l p) → FollowsDesc plan s l p (o ∷ []) → IsNewlyDue o
    by_edge : (r k s l e after : ℕ) (mark : Option Mark) → New (fact.Edge r k s l) → After (fact.End r k e) → HasNext plan s after (sy.Rule r mark) → IsNewlyDue (Arrive (sub_at after l k e))
    by_end : (r k s l e after : ℕ) (mark : Option Mark) → After (fact.Edge r k s l) → New (fact.End r k e) → HasNext plan s after (sy.Rule r mark) → IsNewlyDue (Arrive (sub_at after l k e))

module _ (plan : Parts) (Before After : Fact → Type 0) where
  -- what is due stays due where more is recorded
  pub due_grows : ((f : Fact) → Before f → After f) → (o : Owed) → IsDue plan Before o → IsDue plan After o
  due_grows grows o (claim s l p h) = claim s l p (grows (fact.Desc s l p) h)
  due_grows grows o (passed s l p after e x h n t) = passed s l p after e x (grows (fact.Claim s l p) h) n t
  due_grows grows o (inserted s l p after n h next) = inserted s l p after n (grows (fact.Claim s l p) h) next
  due_grows grows o (waits s l p after r mark h next) = waits s l p after r mark (grows (fact.Claim s l p) h) next
  due_grows grows o (ends s l p r h last) = ends s l p r (grows (fact.Claim s l p) h) last
  due_grows grows o (meets r k s l e after mark edge end next) = meets r k s l e after mark (grows (fact.Edge r k s l) edge) (grows (fact.End r k e) end) next

  -- what is due was due, or follows from a new fact
  pub due_split : (New : Fact → Type 0) → ((f : Fact) → After f → Before f ⊎ New f) → (o : Owed) → IsDue plan After o → IsDue plan Before o ⊎ IsNewlyDue plan New After o
  due_split New from o (claim s l p h) = elim (from (fact.Desc s l p) h) [ inl b ↦ inl (claim s l p b) | inr n ↦ inr (by_desc s l p n) ]
  due_split New from o (passed s l p after e x h n t) = elim (from (fact.Claim s l p) h) [
    | inl b ↦ inl (passed s l p after e x b n t)
    | inr w ↦ inr (by_claim s l p (Arrive (sub_at after l p e)) w (follows.passes x after e n t))
  ]
  due_split New from o (inserted s l p after n h next) = elim (from (fact.Claim s l p) h) [
    | inl b ↦ inl (inserted s l p after n b next)
    | inr w ↦ inr (by_claim s l p (Arrive (sub_at after l p p)) w (follows.inserts n after next))
  ]
  due_split New from o (waits s l p after r mark h next) = elim (from (fact.Claim s l p) h) [
    | inl b ↦ inl (waits s l p after r mark b next)
    | inr w ↦ inr (by_claim s l p (Edge r p s l) w (follows.calls r after mark next))
  ]
  due_split New from o (ends s l p r h last) = elim (from (fact.Claim s l p) h) [
    | inl b ↦ inl (ends s l p r b last)
    | inr w ↦ inr (by_claim s l p (End r l p) w (follows.ends r last))
  ]
  due_split New from o (meets r k s l e after mark edge end next) = elim (from (fact.Edge r k s l) edge) [
    | inr n ↦ inr (by_edge r k s l e after mark n end next)
    | inl b ↦ elim (from (fact.End r k e) end) [
      | inl c ↦ inl (meets r k s l e after mark b c next)
      | inr n ↦ inr (by_end r k s l e after mark edge n next)
    ]
  ]
