-- A step that was done on its bank, and when it keeps the state tidy.
use Rattle.std.proofs.Common.{◌≡◌, ℕ, ◌+◌, ◌≤◌, Bool, List, ◌++◌, length, remove, count_by, Contains, Some, slice_get, sym, ap, ◌∙◌, subst, ◌⊎◌, inl, inr, arith}
use Rattle.std.specs.List.{IsDistinct}
use Rattle.std.proofs.lemmas.List.Elements.{Contains-append_cases}
use Rattle.ix_model.specs.declared.sub.Sub.{Sub}
use Rattle.ix_model.specs.Expansion.Parts.{Parts}
use Rattle.ix_model.specs.Expansion.Planned.{IsPlanned}
use Rattle.ix_model.specs.Expansion.SlotPlaces.{IsFirstSlot}
use Rattle.ix_cluster.specs.declared.fact.Fact.{Fact}
use Rattle.ix_cluster.specs.declared.fact.Fact.TheVariants as fact
use Rattle.ix_cluster.specs.Banks.{facts_of}
use Rattle.ix_cluster.specs.ClosedFacts.{IsInClosed}
use Rattle.ix_cluster.specs.Facts.{same_fact}
use Rattle.ix_cluster.specs.Steps.{empty_sub}
use Rattle.ix_cluster.proofs.Calls.{IsBegun}
use Rattle.ix_cluster.proofs.Members.{nth_has}
use Rattle.ix_closure.specs.declared.owed.Owed.{Owed}
use Rattle.ix_closure.specs.declared.owed.Owed.TheVariants.{Claim, Edge, End, Arrive}
use Rattle.ix_closure.specs.Balance.{IsBalanced}
use Rattle.ix_closure.specs.Due.{IsRecorded, FollowsIn}
use Rattle.ix_closure.specs.Events.{Event, log_after, bank_after, home_for}
use Rattle.ix_closure.specs.Follows.{fact_of, Follows}
use Rattle.ix_closure.specs.Quantity.{same_step, times, givers, gives}
use Rattle.ix_closure.specs.Seen.{State}
use Rattle.ix_closure.specs.Tidy.{IsTidy, IsOwedOnce}
use Rattle.ix_closure.proofs.Due.DueCauses.{arrival_not_first}
use Rattle.ix_closure.proofs.Balancing.EventBanks.{SharesHome, HomeMoves, step_due, step_closed, event_moves}
use Rattle.ix_closure.proofs.Due.FirstSlots.{first_of}
use Rattle.ix_closure.proofs.Lists.ListCounts.{count_remove}
use Rattle.ix_closure.proofs.Lists.ListMembers.{left_was}
use Rattle.ix_closure.proofs.Weighing.LogCounts.{count_set, count_after}
use Rattle.ix_closure.proofs.Tidying.OwedTimes.{times_some, times_none, times_append, times_taken, times_left, fact_of_same}
use Rattle.ix_closure.proofs.Due.StepLogs.{IsBeside, beside_can, newly_recorded}
use Rattle.ix_closure.proofs.Tidying.TidyCauses.{HasCause, IsSingle, IsBroughtOnce, tidy_by, tidy_caused, tidy_once, cause_grows}

-- the n-th owed step was done on the bank with the log, and brought more
pub record IsDone (plan : Parts) (old new : State) (n : ℕ) (log : List Fact) (step : Owed) (more : List Owed) : Type 0 where
  pub taken : slice_get old.owed n ≡ Some step
  pub due : FollowsIn plan old.banks step
  pub closed : IsInClosed plan (fact_of step)
  pub follows : Follows plan log step more
  pub owed : new.owed ≡ remove old.owed n ++ more
  pub moves : HomeMoves plan old new log step
  pub once : IsDistinct same_fact log
  pub counted : (p : Fact → Bool) → count_by p (facts_of new.banks) + count_by p log ≡ count_by p (facts_of old.banks) + count_by p (log_after plan log step)

-- as each event does
pub event_done : (plan : Parts) → IsPlanned plan → (old new : State) (n : ℕ) → IsBalanced plan old → (event : Event plan old n new) → IsDone plan old new n event.bank.log event.step event.more
event_done plan planned old new n balanced event = record {
  taken = event.taken;
  due = step_due plan planned old new n balanced event;
  closed = step_closed plan planned old new n balanced event;
  follows = event.follows;
  owed = event.owed;
  moves = event_moves plan planned old new n balanced event;
  once = (balanced.sound.each (home_for plan (length old.banks) event.step) event.bank event.there).once;
  counted = λ p.
      ap (λ banks. count_by p (facts_of banks) + count_by p event.bank.log) event.done ∙
      count_set p old.banks (home_for plan (length old.banks) event.step) event.bank (bank_after plan event.bank event.step) event.there;
}

module _ (plan : Parts) (planned : IsPlanned plan) (old new : State) (n : ℕ) (log : List Fact) (step : Owed) (more : List Owed) (done : IsDone plan old new n log step more) where
  -- the step was owed
  pub step_owed : Contains old.owed step
  step_owed = nth_has old.owed n step done.taken

  -- what is recorded now was recorded before, or it is the step's own fact, or one beside it
  newly : (f : Fact) → IsRecorded new.banks f → IsRecorded old.banks f ⊎ ((fact_of step ≡ f) ⊎ IsBeside plan log step f)
  newly f h = newly_recorded plan (SharesHome plan (length old.banks) step) (IsRecorded old.banks) (IsRecorded new.banks) log step done.moves f h

  -- beside its own fact a step records none that a due step other than an end is to record
  beside_none : (o x : Owed) → IsSingle x → FollowsIn plan new.banks x → IsBeside plan log o (fact_of x) → ⊥
  unfolding IsBeside IsBegun
  beside_none o (Claim s l p) single due b = beside_can plan log o (fact.Claim s l p) b
  beside_none o (Edge r k s l) single due b = beside_can plan log o (fact.Edge r k s l) b
  beside_none o (End r k e) single due b = single
  beside_none (Claim s l p) (Arrive sub) single due b = b
  beside_none (End r k e) (Arrive sub) single due b = b
  beside_none (Arrive sub') (Arrive sub) single due (n, h) = cc
  beside_none (Edge r k s l) (Arrive sub) single due (e, inl h) = cc
  beside_none (Edge r k s l) (Arrive sub) single due (e, inr (t, m, inl h)) = cc
  beside_none (Edge r k s l) (Arrive sub) single due (e, inr (t, m, inr (z, h))) =
      let slot : t ≡ sub.slot = ap (λ (u : Sub). u.slot) (same_sub h) in
      arrival_not_first plan planned (IsRecorded new.banks) sub due r (subst (λ (u : ℕ). IsFirstSlot plan u r) slot (first_of plan planned r t m))
    where
      same_sub : fact.Part (empty_sub t k) ≡ fact.Part sub → empty_sub t k ≡ sub
      same_sub w = cc

  -- an owed step whose fact is recorded now, and was not before, is the one that was done
  only_step : (x : Owed) → IsSingle x → FollowsIn plan new.banks x → IsRecorded new.banks (fact_of x) → IsRecorded old.banks (fact_of x) ⊎ (x ≡ step)
  only_step x single due h = elim (newly (fact_of x) h) [
    | inl o ↦ inl o
    | inr w ↦ elim w [ inl e ↦ inr (sym (fact_of_same step x e)) | inr b ↦ absurd (beside_none step x single due b) ]
  ]

  -- the state stays tidy where the step's own fact and those beside it have their causes, each step that is brought is brought
  -- once and was not known, and the ends that are brought have claims that give them
  module _ (tidy : IsTidy plan old) (balanced : IsBalanced plan new)
      (own : HasCause plan new (fact_of step)) (beside : (f : Fact) → IsBeside plan log step f → HasCause plan new f)
      (brought : (x : Owed) → IsSingle x → Contains more x → IsBroughtOnce old more x)
      (ends : (r k e : ℕ) → times more (End r k e) + givers plan (facts_of old.banks) r k e ≤ givers plan (facts_of new.banks) r k e) where
    times_new : (x : Owed) → times new.owed x ≡ times (remove old.owed n) x + times more x
    times_new x = ap (λ owed. times owed x) done.owed ∙ times_append (remove old.owed n) more x

    -- the step that was done is not left, where it was owed once
    not_left : (x : Owed) → times old.owed x ≡ 1 → Contains (remove old.owed n) x → x ≡ step → ⊥
    not_left x once c e =
        let taken = subst (λ y. times (remove old.owed n) y + 1 ≡ times old.owed y) (sym e) (times_taken old.owed n step done.taken) in
        omega (arith, times_some (remove old.owed n) x c, taken, once)

    -- a step that is left is owed as often as before
    left_once : (x : Owed) → IsSingle x → FollowsIn plan new.banks x → Contains (remove old.owed n) x → IsOwedOnce new x
    left_once x single due c =
        let was = left_was old.owed n x c in
        let once = tidy_once plan old tidy x single was in
        let other = not_left x once.0 c in
        let none = times_none more x (λ m. (brought x single m).1 (inl was)) in
        (omega (arith, times_new x, none, once.0, times_left old.owed n step x done.taken other), λ h. elim (only_step x single due h) [ inl o ↦ once.1 o | inr e ↦ other e ])

    -- and one that is brought once
    brought_once : (x : Owed) → IsSingle x → FollowsIn plan new.banks x → Contains more x → IsOwedOnce new x
    brought_once x single due c =
        let b = brought x single c in
        let none = times_none (remove old.owed n) x (λ m. b.1 (inl (left_was old.owed n x m))) in
        (omega (arith, times_new x, none, b.0), λ h. b.1 (elim (only_step x single due h) [ inl o ↦ inr o | inr e ↦ inl (subst (Contains old.owed) (sym e) step_owed) ]))

    once_new : (x : Owed) → IsSingle x → Contains new.owed x → IsOwedOnce new x
    once_new x single c = elim (Contains-append_cases (remove old.owed n) more x (subst (λ owed. Contains owed x) done.owed c)) [
      | inl left ↦ left_once x single (balanced.caused x c) left
      | inr now ↦ brought_once x single (balanced.caused x c) now
    ]

    ends_new : (r k e : ℕ) → times new.owed (End r k e) ≤ givers plan (facts_of new.banks) r k e
    ends_new r k e = omega (arith, times_new (End r k e), count_remove (same_step (End r k e)) old.owed n step done.taken, tidy.owed_ends r k e, ends r k e)

    caused_new : (f : Fact) → IsRecorded new.banks f → HasCause plan new f
    caused_new f h = elim (newly f h) [
      | inl o ↦ cause_grows plan old new done.moves.grows f (tidy_caused plan old tidy f o)
      | inr w ↦ elim w [ inl e ↦ subst (HasCause plan new) e own | inr b ↦ beside f b ]
    ]

    pub tidy_after : IsTidy plan new
    tidy_after = tidy_by plan new balanced caused_new once_new ends_new

  -- where no end is brought, the ends that are owed have those that give them
  pub ends_kept : ((r k e : ℕ) → ¬ (Contains more (End r k e))) → (r k e : ℕ) → times more (End r k e) + givers plan (facts_of old.banks) r k e ≤ givers plan (facts_of new.banks) r k e
  ends_kept none r k e = omega (arith, times_none more (End r k e) (none r k e), done.counted (gives plan r k e), count_after (gives plan r k e) plan log step)
