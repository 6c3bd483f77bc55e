use Rattle.std.proofs.Common.{refl}
use Rattle.ix_cluster.proofs.StepCases.{step_from, step_is}
use Rattle.ix_cluster.proofs.laws.arrival_is_a_step.Goals as goal

pub returns-clause-fresh : goal.returns-clause-fresh
returns-clause-fresh c = step_from _ _ _ _ _ refl refl

pub returns-clause-known : goal.returns-clause-known
returns-clause-known c = step_from _ _ _ _ _ refl refl

pub returns-clause-again : goal.returns-clause-again
returns-clause-again c = step_from _ _ _ _ _ refl refl

pub returns-clause-turned : goal.returns-clause-turned
returns-clause-turned c = λ h. let told = step_is _ _ _ _ _ h in cc (told.0, told.1)

pub returns-clause-alone : goal.returns-clause-alone
returns-clause-alone c = λ h. let told = step_is _ _ _ _ _ h in cc (told.0, told.1)

pub returns-clause-not_fresh : goal.returns-clause-not_fresh
returns-clause-not_fresh c = λ h. let told = step_is _ _ _ _ _ h in cc (told.0, told.1)

pub returns-clause-not_known : goal.returns-clause-not_known
returns-clause-not_known c = λ h. let told = step_is _ _ _ _ _ h in cc (told.0, told.1)

pub returns-clause-of_another_kind : goal.returns-clause-of_another_kind
returns-clause-of_another_kind c = λ h. let told = step_is _ _ _ _ _ h in cc (told.0, told.1)
