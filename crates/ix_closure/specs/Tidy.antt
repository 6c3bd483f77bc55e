-- What holds of each state that is reached from the opening. It is this project's own.
use Rattle.std.specs.Prelude.{◌≡◌, ◌⊎◌, ◌≤◌, ℕ, Contains}
use Rattle.ix_model.specs.Closure.Useful.{sub_at}
use Rattle.ix_model.specs.declared.sub.Sub.{Sub}
use Rattle.ix_model.specs.Expansion.Parts.{Parts}
use Rattle.ix_model.specs.Expansion.SlotPlaces.{IsFirstSlot, IsLastSlot}
use Rattle.ix_cluster.specs.declared.fact.Fact.TheVariants as fact
use Rattle.ix_cluster.specs.Banks.{facts_of}
use Rattle.ix_closure.specs.declared.owed.Owed.{Owed}
use Rattle.ix_closure.specs.declared.owed.Owed.TheVariants.{Claim, Edge, End, Arrive}
use Rattle.ix_closure.specs.Balance.{IsBalanced}
use Rattle.ix_closure.specs.Due.{IsRecorded, FollowsIn}
use Rattle.ix_closure.specs.Follows.{fact_of}
use Rattle.ix_closure.specs.Quantity.{times, givers}
use Rattle.ix_closure.specs.Seen.{State}

-- the subtree is the empty one of a called rule's empty alternative
abbrev pub IsEmptyOfCalled : Parts → State → Sub → Type 0
IsEmptyOfCalled plan state sub =
    (r : ℕ) × IsFirstSlot plan sub.slot r × IsLastSlot plan sub.slot r × IsRecorded state.banks (fact.Called r sub.left) × (sub ≡ sub_at sub.slot sub.left sub.left sub.left)

-- the step is owed once, and what it is to record is not recorded
abbrev pub IsOwedOnce : State → Owed → Type 0
IsOwedOnce state step = (times state.owed step ≡ 1) × ¬ (IsRecorded state.banks (fact_of step))

-- nothing is recorded without its cause, and nothing is owed twice but an end that several descriptors give
pub record IsTidy (plan : Parts) (state : State) : Type 0 where
  pub balanced : IsBalanced plan state
  -- a descriptor of a first slot has its call, and any other has a subtree
  pub first_descs : (s l p r : ℕ) → IsRecorded state.banks (fact.Desc s l p) → IsFirstSlot plan s r → IsRecorded state.banks (fact.Called r l)
  pub other_descs : (s l p : ℕ) → IsRecorded state.banks (fact.Desc s l p) → ((r : ℕ) → ¬ (IsFirstSlot plan s r)) → (k : ℕ) × IsRecorded state.banks (fact.Part (sub_at s l k p))
  -- an edge has its descriptor claimed
  pub edges : (r k s l : ℕ) → IsRecorded state.banks (fact.Edge r k s l) → IsRecorded state.banks (fact.Claim s l k)
  -- a subtree is of a called rule's empty alternative, or follows from a claimed descriptor or from an edge and an end
  pub parts : (sub : Sub) → IsRecorded state.banks (fact.Part sub) → IsEmptyOfCalled plan state sub ⊎ FollowsIn plan state.banks (Arrive sub)
  -- claims, edges and arrivals are owed once, and are not recorded
  pub claims : (s l p : ℕ) → Contains state.owed (Claim s l p) → IsOwedOnce state (Claim s l p)
  pub owed_edges : (r k s l : ℕ) → Contains state.owed (Edge r k s l) → IsOwedOnce state (Edge r k s l)
  pub arrivals : (sub : Sub) → Contains state.owed (Arrive sub) → IsOwedOnce state (Arrive sub)
  -- an end is owed at most as often as there are claimed descriptors that give it
  pub owed_ends : (r k e : ℕ) → times state.owed (End r k e) ≤ givers plan (facts_of state.banks) r k e
