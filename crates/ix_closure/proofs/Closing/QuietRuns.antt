-- A state that owes nothing leads to itself alone.
use Rattle.std.proofs.Common.{◌≡◌, ◌∙◌, ℕ, List, [], Some, slice_get, refl, sym, ap, subst}
use Rattle.ix_model.specs.Expansion.Parts.{Parts}
use Rattle.ix_closure.specs.declared.owed.Owed.{Owed}
use Rattle.ix_closure.specs.Events.{Event}
use Rattle.ix_closure.specs.LastRuns.{IsReachedByLast}
use Rattle.ix_closure.specs.Runs.{Run, rests, goes_on, IsQuiet}
use Rattle.ix_closure.specs.Seen.{State}
use Rattle.ix_closure.proofs.Closing.LastSteps.{last_runs}

-- no step is there to be done
pub quiet_no_event : (plan : Parts) (old : State) (n : ℕ) (new : State) → IsQuiet old → Event plan old n new → ⊥
quiet_no_event plan old n new quiet event = let none : slice_get [] n ≡ Some event.step = ap (λ (owed : List Owed). slice_get owed n) (sym quiet) ∙ event.taken in cc none

pub quiet_stays : (plan : Parts) (first : State) → IsQuiet first → (choices : List ℕ) (last : State) → Run plan first choices last → last ≡ first
quiet_stays plan first quiet choices last rests = refl
quiet_stays plan first quiet choices last (goes_on before n middle _ run event) =
    let still : IsQuiet middle = subst IsQuiet (sym (quiet_stays plan first quiet before middle run)) quiet in
    absurd (quiet_no_event plan middle n last still event)

-- by steps that are each the last it leads to itself, too
pub quiet_last : {plan : Parts} {first last : State} → IsQuiet first → IsReachedByLast plan first last → last ≡ first
quiet_last {plan} {first} {last} quiet r = quiet_stays plan first quiet r.0 last (last_runs plan first r.0 last r.1)
