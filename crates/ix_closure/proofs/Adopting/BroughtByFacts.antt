-- What recorded facts bring is what follows from what the banks have recorded.
use Rattle.std.proofs.Common.{◌≡◌, ℕ, ◌+◌, List, [], ◌∷◌, Contains, refl, sym, ap, subst}
use Rattle.ix_model.specs.Closure.Useful.{sub_at}
use Rattle.ix_model.specs.declared.rules.Sym.TheVariants as sy
use Rattle.ix_model.specs.Expansion.Parts.{Parts}
use Rattle.ix_model.specs.Expansion.Planned.{IsPlanned}
use Rattle.ix_model.proofs.SlotReaders.{next_reads}
use Rattle.ix_cluster.specs.declared.fact.Fact.{Fact}
use Rattle.ix_cluster.specs.declared.fact.Fact.TheVariants as fact
use Rattle.ix_cluster.specs.Seen.{Bank}
use Rattle.ix_cluster.specs.Sound.{AreSound}
use Rattle.ix_cluster.proofs.Members.{one_has, none_has, first_has}
use Rattle.ix_closure.specs.declared.owed.Owed.{Owed}
use Rattle.ix_closure.specs.declared.owed.Owed.TheVariants.{Edge, End, Arrive}
use Rattle.ix_closure.specs.Additions.{Adds}
use Rattle.ix_closure.specs.Brought.{IsBroughtBy, Lacks}
use Rattle.ix_closure.specs.Due.{IsRecorded, FollowsIn, claim, passed, inserted, waits, ends, meets}
use Rattle.ix_closure.specs.Follows as follows
use Rattle.ix_closure.specs.Follows.{FollowsDesc}
use Rattle.ix_closure.specs.Quantity.{same_step}
use Rattle.ix_closure.proofs.Adopting.AddedItems.{adds_none, adds_same}
use Rattle.ix_closure.proofs.Balancing.RecordedFacts.{recorded_closed}
use Rattle.ix_closure.proofs.Due.DescriptorSteps.{follows_same, follows_due}
use Rattle.ix_closure.proofs.Due.DueCauses.{edge_next}

module _ (plan : Parts) (planned : IsPlanned plan) (banks : List Bank) (sound : AreSound plan banks) where
  -- ---- what follows

  -- what a recorded fact brings follows
  pub brought_due : (f : Fact) (step : Owed) → IsRecorded banks f → IsBroughtBy plan banks f step → FollowsIn plan banks step
  brought_due (fact.Desc s l p) step h e = subst (FollowsIn plan banks) (sym e) (claim s l p h)
  brought_due (fact.Claim s l p) step h w = follows_due plan (IsRecorded banks) s l p w.0 step h w.1 w.2
  brought_due (fact.Edge r k s l) step h w =
      let next = edge_next plan planned r k s l (recorded_closed plan banks sound (fact.Edge r k s l) h) in
      subst (FollowsIn plan banks) (sym w.2) (meets r k s l w.0 (s + 1) next.0 h w.1 next.1)
  brought_due (fact.Called r k) step h w = absurd w
  brought_due (fact.End r k e) step h w = absurd w
  brought_due (fact.Part sub) step h w = absurd w

  -- and what follows a recorded fact brings
  pub due_brought : (step : Owed) → FollowsIn plan banks step → (f : Fact) × IsRecorded banks f × IsBroughtBy plan banks f step
  due_brought step (claim s l p h) = (fact.Desc s l p, h, refl)
  due_brought step (passed s l p after e x h next t) = (fact.Claim s l p, h, (Arrive (sub_at after l p e) ∷ [], follows.passes x after e next t, first_has (Arrive (sub_at after l p e)) []))
  due_brought step (inserted s l p after n h next) = (fact.Claim s l p, h, (Arrive (sub_at after l p p) ∷ [], follows.inserts n after next, first_has (Arrive (sub_at after l p p)) []))
  due_brought step (waits s l p after r mark h next) = (fact.Claim s l p, h, (Edge r p s l ∷ [], follows.calls r after mark next, first_has (Edge r p s l) []))
  due_brought step (ends s l p r h last) = (fact.Claim s l p, h, (End r l p ∷ [], follows.ends r last, first_has (End r l p) []))
  due_brought step (meets r k s l e after mark edge end next) = (fact.Edge r k s l, edge, (e, end, ap (λ a. Arrive (sub_at a l k e)) (next_reads plan planned s after (sy.Rule r mark) next).2))

  -- ---- what the program notes

  -- what a claimed descriptor brings is one list
  pub adds_next_step : (s l p : ℕ) (step : Owed) (old new : List Owed) → FollowsDesc plan s l p (step ∷ []) → Adds same_step (Lacks banks (λ x. x ≡ step)) old new → Adds same_step (Lacks banks (IsBroughtBy plan banks (fact.Claim s l p))) old new
  adds_next_step s l p step old new f =
      adds_same same_step (Lacks banks (λ x. x ≡ step)) (Lacks banks (IsBroughtBy plan banks (fact.Claim s l p))) old new
      (λ x h. ((step ∷ [], f, subst (Contains (step ∷ [])) (sym h.0) (first_has step [])), h.1))
      (λ x h. (sym (one_has step x (subst (λ (z : List Owed). Contains z x) (follows_same plan planned s l p h.0.0 (step ∷ []) h.0.1 f) h.0.2)), h.1))

  pub adds_no_step : (s l p : ℕ) (old : List Owed) → FollowsDesc plan s l p [] → Adds same_step (Lacks banks (IsBroughtBy plan banks (fact.Claim s l p))) old old
  adds_no_step s l p old f =
      adds_none same_step (Lacks banks (IsBroughtBy plan banks (fact.Claim s l p))) old
      (λ x h. none_has x (subst (λ (z : List Owed). Contains z x) (follows_same plan planned s l p h.0.0 [] h.0.1 f) h.0.2))
