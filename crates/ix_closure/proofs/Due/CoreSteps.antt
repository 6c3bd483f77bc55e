-- A step of a core is an event.
use Rattle.std.proofs.Common.{◌≡◌, ℕ, ◌+◌, ◌<◌, List, length, get_or, Some, slice_get, slice_set, Result, Ok, Err, OnOk, OnErr, refl, sym, ap, ◌∙◌, subst, arith}
use Rattle.std.proofs.lemmas.Option.{slice_get_read}
use Rattle.ix_model.specs.Expansion.Parts.{Parts}
use Rattle.ix_model.specs.Expansion.Planned.{IsPlanned}
use Rattle.ix_cluster.specs.declared.limits.TheConstants.{FACT_LIMIT}
use Rattle.ix_cluster.specs.declared.fact.Fact.{Fact}
use Rattle.ix_cluster.specs.ClosedFacts.{IsInClosed}
use Rattle.ix_cluster.specs.Homes.{home_of}
use Rattle.ix_cluster.specs.Room.{unclaimed_in}
use Rattle.ix_cluster.specs.Seen.{Bank}
use Rattle.ix_cluster.proofs.Members.{nth_has}
use Rattle.ix_closure.specs.declared.owed.Owed.{Owed}
use Rattle.ix_closure.specs.Balance.{IsBalanced}
use Rattle.ix_closure.specs.Events.{Event, bank_after, home_for}
use Rattle.ix_closure.specs.Follows.{fact_of}
use Rattle.ix_closure.specs.Ready.{HasSlot, IsReady, IsReplaced}
use Rattle.ix_closure.specs.Seen.{State}
use Rattle.ix_closure.proofs.Due.DueClosed.{owed_closed}
use Rattle.ix_closure.proofs.Balancing.EventBalance.{event_balanced}
use Rattle.ix_closure.proofs.Lists.ListUpdates.{set_same}
use Rattle.ix_closure.proofs.Due.Readiness.{step_slot, step_ready}
use Rattle.ix_closure.proofs.Balancing.RecordedFacts.{recorded_closed, recorded_by}

-- the n-th owed step is this one
module _ (plan : Parts) (planned : IsPlanned plan) (old : State) (balanced : IsBalanced plan old) (n : ℕ) (step : Owed) (within : n < length old.owed) (at : step ≡ get_or old.owed n step) where
  taken : slice_get old.owed n ≡ Some step
  taken = slice_get_read old.owed (length old.owed) n step refl within at

  closed : IsInClosed plan (fact_of step)
  closed = owed_closed plan old balanced step (nth_has old.owed n step taken)

  -- its home can be told
  pub has_slot : HasSlot plan step
  has_slot = step_slot plan planned step closed

  -- its bank is there, and it can be done on it
  module _ (m : ℕ) (home : m ≡ home_for plan (length old.banks) step) (bank : Bank) (value : bank ≡ get_or old.banks m bank) where
    there : slice_get old.banks m ≡ Some bank
    there = slice_get_read old.banks (length old.banks) m bank refl (subst (λ i. i < length old.banks) (sym home) (below (fact_of step))) value
      where
        below : (f : Fact) → home_of plan (length old.banks) f < length old.banks
        below f = grind (arith, balanced.sound.some)

    pub is_ready : IsReady plan bank.log step
    is_ready = step_ready plan planned bank.log (λ f h. recorded_closed plan old.banks balanced.sound f (recorded_by old.banks m bank f there h)) step closed

    module _ (new : Bank) (owed : List Owed) where
      after : State
      after = record { banks = slice_set old.banks m new; owed = owed }

      is_event : new ≡ bank_after plan bank step → IsReplaced plan bank.log step old.owed n owed → length new.log + unclaimed_in new.log < FACT_LIMIT → Event plan old n after
      unfolding after
      is_event e r bounded = record {
        step = step;
        taken = taken;
        bank = bank;
        there = ap (slice_get old.banks) (sym home) ∙ there;
        done = ap (λ (i : ℕ). slice_set old.banks i new) home ∙ ap (slice_set old.banks (home_for plan (length old.banks) step)) e;
        more = r.0;
        follows = r.1;
        owed = r.2;
        bounded = subst (λ (b : Bank). length b.log + unclaimed_in b.log < FACT_LIMIT) e bounded;
      }

      -- where there was memory, an event has happened
      pub ok_event : {T E : Type 0} (r : Result T E) → OnOk r (new ≡ bank_after plan bank step) → OnOk r (IsReplaced plan bank.log step old.owed n owed) → length new.log + unclaimed_in new.log < FACT_LIMIT → OnOk r (Event plan old n (record { banks = slice_set old.banks m new; owed = owed }))
      unfolding after
      ok_event (Ok x) e r bounded = is_event e r bounded
      ok_event (Err x) e r bounded = e

      -- and where there was not, all is as before
      pub err_stays : {T E : Type 0} (r : Result T E) → OnErr r (new ≡ bank) → OnErr r (owed ≡ old.owed) → OnErr r (record { banks = slice_set old.banks m new; owed = owed } ≡ old)
      err_stays (Ok x) e w = e
      err_stays (Err x) e w = λ i. record { banks = (ap (slice_set old.banks m) e ∙ set_same old.banks m bank there) i; owed = w i }

      pub stays_balanced : {T E : Type 0} (r : Result T E) → OnOk r (new ≡ bank_after plan bank step) → OnOk r (IsReplaced plan bank.log step old.owed n owed) → OnErr r (new ≡ bank) → OnErr r (owed ≡ old.owed) → length new.log + unclaimed_in new.log < FACT_LIMIT → IsBalanced plan (record { banks = slice_set old.banks m new; owed = owed })
      unfolding after
      stays_balanced (Ok x) e r a b bounded = event_balanced plan planned old after n balanced (is_event e r bounded)
      stays_balanced {T = T} (Err x) e r a b bounded = subst (IsBalanced plan) (sym (err_stays {T = T} (Err x) a b)) balanced
