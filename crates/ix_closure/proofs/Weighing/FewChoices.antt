-- A list of choices is no longer than twice the descriptors of the closure, and its pairs of an edge and an end.
use Rattle.std.proofs.Common.{◌≡◌, ℕ, ◌+◌, ◌≤◌, List, [], ◌∷◌, length, length-append, remove, Contains, Some, slice_get, refl, sym, ap, ◌∙◌, arith}
use Rattle.std.proofs.lemmas.List.{length-map}
use Rattle.std.proofs.lemmas.List.Edits.{length-remove}
use Rattle.std.proofs.lemmas.Option.{slice_get_within}
use Rattle.ix_model.specs.Expansion.Parts.{Parts}
use Rattle.ix_model.specs.Expansion.Planned.{IsPlanned}
use Rattle.ix_model.specs.Expansion.SlotPlaces.{IsFirstSlot}
use Rattle.ix_model.proofs.SlotReaders.{first_reads}
use Rattle.ix_cluster.specs.declared.fact.Fact.{Fact}
use Rattle.ix_cluster.specs.declared.fact.Fact.TheVariants as fact
use Rattle.ix_cluster.specs.Banks.{opening}
use Rattle.ix_cluster.specs.Firsts.{firsts_of}
use Rattle.ix_cluster.specs.Homes.{home}
use Rattle.ix_cluster.specs.Seen.{Bank}
use Rattle.ix_closure.specs.declared.owed.Owed.TheVariants.{Claim}
use Rattle.ix_closure.specs.Closure.{IsClosure}
use Rattle.ix_closure.specs.Events.{Event, bank_after, home_for}
use Rattle.ix_closure.specs.Follows.{claims_at}
use Rattle.ix_closure.specs.Quantity.{step_bound}
use Rattle.ix_closure.specs.Runs.{Run, rests, goes_on}
use Rattle.ix_closure.specs.Seen.{State}
use Rattle.ix_closure.specs.Tidy.{IsTidy}
use Rattle.ix_closure.proofs.Weighing.ClosureWeights.{weight_sound}
use Rattle.ix_closure.proofs.Due.FirstSlots.{first_of}
use Rattle.ix_closure.proofs.Balancing.RecordedFacts.{recorded_by, recorded_here}
use Rattle.ix_closure.proofs.Due.StepLogs.{has_none, has_not}
use Rattle.ix_closure.proofs.Weighing.StepWeights.{IsFresh, descriptor_call, step_paid}
use Rattle.ix_closure.proofs.Weighing.Weights.{weight_in, weight_set}

module _ (plan : Parts) (planned : IsPlanned plan) where
  -- in a tidy state no bank has begun an alternative of a rule that is not called
  tidy_fresh : (state : State) → IsTidy plan state → (m : ℕ) (bank : Bank) → slice_get state.banks m ≡ Some bank → IsFresh plan bank.log
  tidy_fresh state tidy m bank there r k none s h = has_not bank.log (fact.Desc s k k) (λ d. has_none bank.log (fact.Called r k) none (here d))
    where
      first : IsFirstSlot plan s r
      first = first_of plan planned r s h

      here : Contains bank.log (fact.Desc s k k) → Contains bank.log (fact.Called r k)
      here d =
          let called = tidy.first_descs s k k r (recorded_by state.banks m bank (fact.Desc s k k) there d) first in
          let home_is : home r k (length state.banks) ≡ m = ap (λ (n : ℕ). home n k (length state.banks)) (sym (first_reads plan s r first).1) ∙ (tidy.balanced.sound.each m bank there).at_home (fact.Desc s k k) d in
          recorded_here plan state.banks tidy.balanced.sound m bank there (fact.Called r k) home_is called

  -- an event adds as much weight as it adds owed steps, and one for itself
  pub event_paid : (old new : State) (n : ℕ) → IsTidy plan old → Event plan old n new → 1 + length new.owed + weight_in old.banks ≤ length old.owed + weight_in new.banks
  event_paid old new n tidy event =
      let m = home_for plan (length old.banks) event.step in
      omega (
        arith,
        ap length event.owed,
        length-append (remove old.owed n) event.more,
        length-remove old.owed n (slice_get_within old.owed n event.step event.taken),
        step_paid plan planned event.bank.log (tidy_fresh old tidy m event.bank event.there) event.step event.more event.follows,
        ap weight_in event.done,
        weight_set old.banks m event.bank (bank_after plan event.bank event.step) event.there,
      )

  -- from a state that has paid for what it owes, each step of a run is paid
  pub steps_paid : (first last : State) (choices : List ℕ) → length first.owed ≤ weight_in first.banks → ((c : List ℕ) (s : State) → Run plan first c s → IsTidy plan s) → Run plan first choices last → length choices + length last.owed ≤ weight_in last.banks
  steps_paid first last choices start tidy rests = omega (arith, start)
  steps_paid first last choices start tidy (goes_on before n middle after run event) =
      omega (arith, length-append before (n ∷ []), steps_paid first middle before start tidy run, event_paid middle after n (tidy before middle run) event)

  -- the opening bank has a descriptor for each claim that is owed at the start
  opening_paid : length (claims_at 0 (firsts_of plan 0)) ≤ weight_in (opening plan 1)
  opening_paid = omega (arith, length-map (firsts_of plan 0) (λ s. Claim s 0 0), descriptor_call plan 0 planned [] 0 refl (λ s h. refl))

  module _ (first : State) (banks_open : first.banks ≡ opening plan 1) (owed_open : first.owed ≡ claims_at 0 (firsts_of plan 0)) (tidy : (c : List ℕ) (s : State) → Run plan first c s → IsTidy plan s) where
    -- as many steps as the list chose, and those that are owed, have made facts
    pub few_steps : (last : State) (choices : List ℕ) → Run plan first choices last → length choices + length last.owed ≤ weight_in last.banks
    few_steps last choices run = steps_paid first last choices (omega (arith, ap length owed_open, ap weight_in banks_open, opening_paid)) tidy run

    -- no list of choices is longer than the bound of the closure
    pub few_choices : (last : State) (choices : List ℕ) → Run plan first choices last → (all : List Fact) → IsClosure plan all → length choices + length last.owed ≤ step_bound all
    few_choices last choices run all closure =
        omega (arith, few_steps last choices run, weight_sound plan last.banks (tidy choices last run).balanced.sound all closure)
