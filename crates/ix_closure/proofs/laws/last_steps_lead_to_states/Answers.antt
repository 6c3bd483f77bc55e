use Rattle.std.proofs.Common.{[], ◌∷◌, ap, refl, arith}
use Rattle.ix_examples.specs.SmallPlans.{cycle, nothing}
use Rattle.ix_closure.specs.Examples.{cycle_begun, nothing_begun, nothing_claimed, nothing_ended}
use Rattle.ix_closure.specs.LastRuns.{LastRun, stays, does_last}
use Rattle.ix_closure.specs.Seen.{State}
use Rattle.ix_closure.proofs.Closing.LastSteps.{last_runs, one_last}
use Rattle.ix_closure.proofs.Closing.QuietRuns.{quiet_stays}
use Rattle.ix_closure.proofs.Due.OneOutcome.{run_once}
use Rattle.ix_closure.proofs.Small.SmallEvents.{nothing_goes_on, nothing_is_claimed, nothing_is_ended, second_is_claimed}
use Rattle.ix_closure.proofs.Small.SmallSteps.{nothing_planned}
use Rattle.ix_closure.proofs.laws.last_steps_lead_to_states.Goals as goal

both : LastRun (nothing []) nothing_begun (0 ∷ 0 ∷ []) nothing_ended
both = does_last (0 ∷ []) 0 nothing_claimed nothing_ended (does_last [] 0 nothing_begun nothing_claimed stays refl nothing_is_claimed) refl nothing_is_ended

pub returns-clause-both : goal.returns-clause-both
returns-clause-both c = both

pub returns-clause-none : goal.returns-clause-none
returns-clause-none c = stays

pub returns-clause-second : goal.returns-clause-second
returns-clause-second c = does_last [] 1 cycle_begun _ stays refl second_is_claimed

pub returns-clause-first : goal.returns-clause-first
returns-clause-first c = λ h. omega (arith, one_last (cycle []) cycle_begun (0 ∷ []) _ h 0 refl)

pub returns-clause-too_few : goal.returns-clause-too_few
returns-clause-too_few c = λ h. let e = ap (λ (s : State). s.owed) (run_once (nothing []) nothing_planned nothing_begun (0 ∷ []) nothing_claimed nothing_ended nothing_goes_on (last_runs (nothing []) nothing_begun (0 ∷ []) nothing_ended h)) in cc e

pub returns-clause-reached : goal.returns-clause-reached
returns-clause-reached c = (0 ∷ 0 ∷ [], both)

pub returns-clause-back : goal.returns-clause-back
returns-clause-back c = λ h. let e = ap (λ (s : State). s.owed) (quiet_stays (nothing []) nothing_ended refl h.0 nothing_begun (last_runs (nothing []) nothing_ended h.0 nothing_begun h.1)) in cc e
