use Rattle.std.proofs.Common.{[], ◌∷◌, ap, refl}
use Rattle.ix_examples.specs.SmallPlans.{nothing}
use Rattle.ix_closure.specs.Examples.{nothing_begun, nothing_ended}
use Rattle.ix_closure.specs.Runs.{rests}
use Rattle.ix_closure.specs.Seen.{State}
use Rattle.ix_closure.proofs.Closing.QuietRuns.{quiet_stays}
use Rattle.ix_closure.proofs.Small.SmallEvents.{nothing_runs}
use Rattle.ix_closure.proofs.laws.states_are_reached_by_steps.Goals as goal

pub returns-clause-end : goal.returns-clause-end
returns-clause-end c = (0 ∷ 0 ∷ [], nothing_runs)

pub returns-clause-itself : goal.returns-clause-itself
returns-clause-itself c = ([], rests)

pub returns-clause-back : goal.returns-clause-back
returns-clause-back c = λ h. let e = ap (λ (s : State). s.owed) (quiet_stays (nothing []) nothing_ended refl h.0 nothing_begun h.1) in cc e
