-- What an event does to the banks.
use Rattle.std.proofs.Common.{◌≡◌, ℕ, List, length, refl, sym, subst}
use Rattle.ix_model.specs.Expansion.Parts.{Parts}
use Rattle.ix_model.specs.Expansion.Planned.{IsPlanned}
use Rattle.ix_cluster.specs.declared.fact.Fact.{Fact}
use Rattle.ix_cluster.specs.ClosedFacts.{IsInClosed}
use Rattle.ix_cluster.specs.Homes.{home_of}
use Rattle.ix_cluster.specs.Sound.{IsSoundBank, AreSound}
use Rattle.ix_cluster.proofs.Members.{nth_has}
use Rattle.ix_closure.specs.declared.owed.Owed.{Owed}
use Rattle.ix_closure.specs.Balance.{IsBalanced}
use Rattle.ix_closure.specs.Due.{IsRecorded, FollowsIn}
use Rattle.ix_closure.specs.Events.{Event, log_after, bank_after, home_for}
use Rattle.ix_closure.specs.Follows.{fact_of}
use Rattle.ix_closure.specs.Seen.{State}
use Rattle.ix_closure.proofs.Balancing.BankSound.{bank_sound}
use Rattle.ix_closure.proofs.Due.DueClosed.{owed_closed}
use Rattle.ix_closure.proofs.Balancing.RecordedFacts.{Moves, set_sound, set_moves}
use Rattle.ix_closure.proofs.Due.StepLogs.{log_keeps}

-- the fact has its home where the step has
abbrev pub SharesHome : Parts → ℕ → Owed → Fact → Type 0
SharesHome plan count step f = home_of plan count f ≡ home_for plan count step

-- the home of the step went from the log to the one after the step
abbrev pub HomeMoves : Parts → State → State → List Fact → Owed → Type 0
HomeMoves plan old new log step = Moves (SharesHome plan (length old.banks) step) (IsRecorded old.banks) (IsRecorded new.banks) log (log_after plan log step)

module _ (plan : Parts) (planned : IsPlanned plan) (old new : State) (n : ℕ) (balanced : IsBalanced plan old) (event : Event plan old n new) where
  -- the step is due, and what it is to record is in the closure
  pub step_due : FollowsIn plan old.banks event.step
  step_due = balanced.caused event.step (nth_has old.owed n event.step event.taken)

  pub step_closed : IsInClosed plan (fact_of event.step)
  step_closed = owed_closed plan old balanced event.step (nth_has old.owed n event.step event.taken)

  -- the bank that does it stays sound
  new_sound : IsSoundBank plan (length old.banks) (home_for plan (length old.banks) event.step) (bank_after plan event.bank event.step)
  new_sound =
      bank_sound plan planned (length old.banks) (home_for plan (length old.banks) event.step) event.bank event.step step_closed refl event.bounded
      (balanced.sound.each (home_for plan (length old.banks) event.step) event.bank event.there)

  -- and so do all
  pub event_sound : AreSound plan new.banks
  event_sound =
      subst (AreSound plan) (sym event.done)
      (set_sound plan old.banks balanced.sound (home_for plan (length old.banks) event.step) event.bank (bank_after plan event.bank event.step) event.there new_sound (log_keeps plan event.bank.log event.step))

  pub event_moves : HomeMoves plan old new event.bank.log event.step
  event_moves =
      subst (λ banks. Moves (SharesHome plan (length old.banks) event.step) (IsRecorded old.banks) (IsRecorded banks) event.bank.log (log_after plan event.bank.log event.step)) (sym event.done)
      (set_moves plan old.banks balanced.sound (home_for plan (length old.banks) event.step) event.bank (bank_after plan event.bank event.step) event.there new_sound (log_keeps plan event.bank.log event.step))
