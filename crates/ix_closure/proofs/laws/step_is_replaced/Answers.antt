use Rattle.std.proofs.Common.{◌≡◌, [], ◌∷◌, codes, refl}
use Rattle.ix_model.specs.Closure.Useful.{sub_at}
use Rattle.ix_examples.specs.SmallPlans.{only_a}
use Rattle.ix_examples.proofs.SmallPlans.{planned_a}
use Rattle.ix_closure.specs.declared.owed.Owed.TheVariants.{Arrive}
use Rattle.ix_closure.proofs.Due.DescriptorSteps.{follows_same}
use Rattle.ix_closure.proofs.Small.SmallSteps.{a_passes}
use Rattle.ix_closure.proofs.laws.step_is_replaced.Goals as goal

pub returns-clause-replaced : goal.returns-clause-replaced
returns-clause-replaced c = (Arrive (sub_at 1 0 0 1) ∷ [], a_passes, refl)

pub returns-clause-forgotten : goal.returns-clause-forgotten
returns-clause-forgotten c = λ h. let e : Arrive (sub_at 1 0 0 1) ∷ [] ≡ h.0 = follows_same (only_a (codes "a")) planned_a 0 0 0 (Arrive (sub_at 1 0 0 1) ∷ []) h.0 a_passes h.1 in cc (e, h.2)
