use Rattle.std.proofs.Common.{[], ◌∷◌, ap}
use Rattle.ix_examples.specs.SmallPlans.{nothing}
use Rattle.ix_closure.specs.Examples.{nothing_begun, nothing_claimed, nothing_ended}
use Rattle.ix_closure.specs.Runs.{rests}
use Rattle.ix_closure.specs.Seen.{State}
use Rattle.ix_closure.proofs.Due.OneOutcome.{run_once}
use Rattle.ix_closure.proofs.Small.SmallEvents.{nothing_goes_on, nothing_runs}
use Rattle.ix_closure.proofs.Small.SmallSteps.{nothing_planned}
use Rattle.ix_closure.proofs.laws.choices_lead_to_states.Goals as goal

pub returns-clause-both : goal.returns-clause-both
returns-clause-both c = nothing_runs

pub returns-clause-none : goal.returns-clause-none
returns-clause-none c = rests

pub returns-clause-too_few : goal.returns-clause-too_few
returns-clause-too_few c = λ h. let e = ap (λ (s : State). s.owed) (run_once (nothing []) nothing_planned nothing_begun (0 ∷ []) nothing_claimed nothing_ended nothing_goes_on h) in cc e
