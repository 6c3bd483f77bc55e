use Rattle.std.proofs.Common.{[], ◌∷◌, codes}
use Rattle.ix_model.specs.Closure.Useful.{sub_at}
use Rattle.ix_examples.specs.SmallPlans.{only_a}
use Rattle.ix_examples.proofs.SmallPlans.{planned_a}
use Rattle.ix_closure.specs.declared.owed.Owed.TheVariants.{Arrive}
use Rattle.ix_closure.proofs.Due.DescriptorSteps.{follows_same}
use Rattle.ix_closure.proofs.Small.SmallSteps.{a_passes, b_stops}
use Rattle.ix_closure.proofs.laws.descriptor_passes_a_terminal.Goals as goal

pub returns-clause-passes : goal.returns-clause-passes
returns-clause-passes c = a_passes

pub returns-clause-no_stop : goal.returns-clause-no_stop
returns-clause-no_stop c = λ h. let e = follows_same (only_a (codes "a")) planned_a 0 0 0 (Arrive (sub_at 1 0 0 1) ∷ []) [] a_passes h in cc e

pub returns-clause-stops : goal.returns-clause-stops
returns-clause-stops c = b_stops
