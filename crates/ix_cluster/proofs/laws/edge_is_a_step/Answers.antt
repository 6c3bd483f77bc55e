use Rattle.std.proofs.Common.{refl}
use Rattle.ix_cluster.proofs.StepCases.{step_from, step_is}
use Rattle.ix_cluster.proofs.laws.edge_is_a_step.Goals as goal

pub returns-clause-calls : goal.returns-clause-calls
returns-clause-calls c = step_from _ _ _ _ _ refl refl

pub returns-clause-joins : goal.returns-clause-joins
returns-clause-joins c = step_from _ _ _ _ _ refl refl

pub returns-clause-again : goal.returns-clause-again
returns-clause-again c = step_from _ _ _ _ _ refl refl

pub returns-clause-turned : goal.returns-clause-turned
returns-clause-turned c = λ h. let told = step_is _ _ _ _ _ h in cc (told.0, told.1)

pub returns-clause-forgotten : goal.returns-clause-forgotten
returns-clause-forgotten c = λ h. let told = step_is _ _ _ _ _ h in cc (told.0, told.1)

pub returns-clause-other_cluster : goal.returns-clause-other_cluster
returns-clause-other_cluster c = λ h. let told = step_is _ _ _ _ _ h in cc (told.0, told.1)

pub returns-clause-not_first : goal.returns-clause-not_first
returns-clause-not_first c = λ h. let told = step_is _ _ _ _ _ h in cc (told.0, told.1)

pub returns-clause-not_begun : goal.returns-clause-not_begun
returns-clause-not_begun c = λ h. let told = step_is _ _ _ _ _ h in cc (told.0, told.1)

pub returns-clause-twice : goal.returns-clause-twice
returns-clause-twice c = λ h. let told = step_is _ _ _ _ _ h in cc (told.0, told.1)

pub returns-clause-met_again : goal.returns-clause-met_again
returns-clause-met_again c = λ h. let told = step_is _ _ _ _ _ h in cc (told.0, told.1)
