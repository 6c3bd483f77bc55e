use Rattle.std.proofs.Common.{ℕ, ◌∷◌, refl, ap, arith}
use Rattle.ix_cluster.specs.BankSteps.{Answer, Meets}
use Rattle.ix_cluster.proofs.StepCases.{step_from, step_is}
use Rattle.ix_cluster.proofs.laws.end_is_a_step.Goals as goal

-- the slot of the first edge that an end meets
abbrev first_slot : Answer → ℕ
first_slot (Meets (edge ∷ edges)) = edge.slot
first_slot _ = 0

pub returns-clause-comes : goal.returns-clause-comes
returns-clause-comes c = step_from _ _ _ _ _ refl refl

pub returns-clause-again : goal.returns-clause-again
returns-clause-again c = step_from _ _ _ _ _ refl refl

pub returns-clause-turned : goal.returns-clause-turned
returns-clause-turned c = λ h. let told = step_is _ _ _ _ _ h in omega (arith, ap first_slot told.0)

pub returns-clause-forgotten : goal.returns-clause-forgotten
returns-clause-forgotten c = λ h. let told = step_is _ _ _ _ _ h in cc (told.0, told.1)

pub returns-clause-met_again : goal.returns-clause-met_again
returns-clause-met_again c = λ h. let told = step_is _ _ _ _ _ h in cc (told.0, told.1)

pub returns-clause-not_recorded : goal.returns-clause-not_recorded
returns-clause-not_recorded c = λ h. let told = step_is _ _ _ _ _ h in cc (told.0, told.1)

pub returns-clause-in_front : goal.returns-clause-in_front
returns-clause-in_front c = λ h. let told = step_is _ _ _ _ _ h in cc (told.0, told.1)
