-- What the home of a fact answers tells what all banks have recorded.
use Rattle.std.proofs.Common.{◌≡◌, ℕ, ◌+◌, ◌<◌, ◌≤◌, Bool, true, false, List, length, Contains, Some, slice_get, true≢false, sym, ap, ◌∙◌, subst}
use Rattle.ix_model.specs.Closure.Useful.{sub_at}
use Rattle.ix_model.specs.Expansion.Parts.{Parts}
use Rattle.ix_model.specs.Expansion.Planned.{IsPlanned}
use Rattle.ix_closure_laws.proofs.ClosedWithin.{desc_within}
use Rattle.ix_cluster.specs.declared.fact.Fact.TheVariants as fact
use Rattle.ix_cluster.specs.Facts.{has}
use Rattle.ix_cluster.specs.Homes.{home}
use Rattle.ix_cluster.specs.Lists.{cluster}
use Rattle.ix_cluster.specs.Seen.{Bank}
use Rattle.ix_cluster.specs.Sound.{AreSound}
use Rattle.ix_cluster.specs.Steps.{ends_in}
use Rattle.ix_cluster.proofs.Members.{nth_has, has-Contains, Contains-has}
use Rattle.ix_closure.specs.declared.owed.Owed.{Owed}
use Rattle.ix_closure.specs.declared.owed.Owed.TheVariants.{Arrive}
use Rattle.ix_closure.specs.Additions.{Adds, IsOfSome}
use Rattle.ix_closure.specs.Brought.{IsBroughtBy, Lacks}
use Rattle.ix_closure.specs.Due.{IsRecorded, FollowsIn}
use Rattle.ix_closure.specs.Events.{home_for}
use Rattle.ix_closure.specs.Follows.{fact_of, arrival}
use Rattle.ix_closure.specs.Quantity.{same_step}
use Rattle.ix_closure.specs.Ready.{HasFurther, HasSlot}
use Rattle.ix_closure.proofs.Adopting.AddedItems.{adds_none, adds_same}
use Rattle.ix_closure.proofs.Adopting.BroughtByFacts.{brought_due}
use Rattle.ix_closure.proofs.Balancing.RecordedFacts.{recorded_by, recorded_here, recorded_closed}
use Rattle.ix_closure.proofs.Due.DueClosed.{due_closed}
use Rattle.ix_closure.proofs.Due.Readiness.{edge_further, step_slot}
use Rattle.ix_closure.proofs.Lists.ClusterLists.{ends_have, ends_from}

module _ (plan : Parts) (planned : IsPlanned plan) (banks : List Bank) (sound : AreSound plan banks) where
  -- ---- what is asked can be asked

  -- the home of a step that follows can be told
  pub due_slot : (step : Owed) → FollowsIn plan banks step → HasSlot plan step
  due_slot step due = step_slot plan planned step (due_closed plan (IsRecorded banks) (recorded_closed plan banks sound) step due)

  -- the slot of a recorded edge has a next one
  pub recorded_further : (r k s l : ℕ) → IsRecorded banks (fact.Edge r k s l) → HasFurther plan s
  recorded_further r k s l h = edge_further plan planned r k s l (recorded_closed plan banks sound (fact.Edge r k s l) h)

  -- and a claimed descriptor is in range
  pub claim_within : (s l p : ℕ) → IsRecorded banks (fact.Claim s l p) → (s < length plan.slots) × (p ≤ length plan.text)
  claim_within s l p h = let w = desc_within plan planned s l p (recorded_closed plan banks sound (fact.Claim s l p) h) in (w.0, w.2)

  -- ---- whether a step's fact is recorded

  module _ (step : Owed) (m : ℕ) (bank : Bank) (there : slice_get banks m ≡ Some bank) (home : m ≡ home_for plan (length banks) step) (test : Bool) (is : test ≡ has bank.log (fact_of step)) (old new : List Owed) where
    -- a step whose home has its fact is not lacking
    pub adds_recorded : test ≡ true → Adds same_step (Lacks banks (λ x. x ≡ step)) old old
    adds_recorded t =
        let here : IsRecorded banks (fact_of step) = recorded_by banks m bank (fact_of step) there (Contains-has bank.log (fact_of step) (sym is ∙ t)) in
        adds_none same_step (Lacks banks (λ x. x ≡ step)) old (λ x h. h.1 (subst (λ (o : Owed). IsRecorded banks (fact_of o)) (sym h.0) here))

    -- and any other is
    pub adds_lacking : test ≡ false → Adds same_step (λ x. x ≡ step) old new → Adds same_step (Lacks banks (λ x. x ≡ step)) old new
    adds_lacking f =
        let none : IsRecorded banks (fact_of step) → ⊥ = λ h. true≢false (sym (has-Contains bank.log (fact_of step) (recorded_here plan banks sound m bank there (fact_of step) (sym home) h)) ∙ sym is ∙ f) in
        adds_same same_step (λ x. x ≡ step) (Lacks banks (λ x. x ≡ step)) old new (λ x e. (e, λ h. none (subst (λ (o : Owed). IsRecorded banks (fact_of o)) e h))) (λ x h. h.0)

  -- ---- which ends a cluster has

  module _ (r k s l m : ℕ) (bank : Bank) (there : slice_get banks m ≡ Some bank) (list : List ℕ) (is : list ≡ ends_in bank.log (cluster r k)) where
    listed_end : (e : ℕ) → Contains list e → IsRecorded banks (fact.End r k e)
    listed_end e h = recorded_by banks m bank (fact.End r k e) there (ends_from (cluster r k) bank.log e (subst (λ (z : List ℕ). Contains z e) is h))

    -- the arrival of a recorded edge's slot behind a listed end follows
    pub arrival_due : IsRecorded banks (fact.Edge r k s l) → (n e : ℕ) → slice_get list n ≡ Some e → (after : ℕ) → after ≡ s + 1 → FollowsIn plan banks (Arrive (sub_at after l k e))
    arrival_due edge n e at after next =
        brought_due plan planned banks sound (fact.Edge r k s l) (Arrive (sub_at after l k e)) edge (e, listed_end e (nth_has list n e at), ap (λ (a : ℕ). Arrive (sub_at a l k e)) next)

    -- an edge brings an arrival behind each listed end of its cluster
    pub adds_arrivals : m ≡ home r k (length banks) → (old new : List Owed) → Adds same_step (IsOfSome list (λ e. Lacks banks (λ x. x ≡ arrival k e (record { slot = s; left = l })))) old new →
        Adds same_step (Lacks banks (IsBroughtBy plan banks (fact.Edge r k s l))) old new
    adds_arrivals home old new =
        adds_same same_step (IsOfSome list (λ e. Lacks banks (λ x. x ≡ arrival k e (record { slot = s; left = l })))) (Lacks banks (IsBroughtBy plan banks (fact.Edge r k s l))) old new
        (λ x h. ((h.0, listed_end h.0 h.1, h.2.0), h.2.1))
        (λ x h. (h.0.0, subst (λ (z : List ℕ). Contains z h.0.0) (sym is) (ends_have (cluster r k) bank.log h.0.0 (recorded_here plan banks sound m bank there (fact.End r k h.0.0) (sym home) h.0.1)), (h.0.2, h.1)))
