use Rattle.std.proofs.Common.{refl}
use Rattle.ix_cluster.proofs.StepCases.{step_from, step_is}
use Rattle.ix_cluster.proofs.laws.claim_is_a_step.Goals as goal

pub returns-clause-mine : goal.returns-clause-mine
returns-clause-mine c = step_from _ _ _ _ _ refl refl

pub returns-clause-taken : goal.returns-clause-taken
returns-clause-taken c = step_from _ _ _ _ _ refl refl

pub returns-clause-unknown : goal.returns-clause-unknown
returns-clause-unknown c = step_from _ _ _ _ _ refl refl

pub returns-clause-records_nothing : goal.returns-clause-records_nothing
returns-clause-records_nothing c = λ h. let told = step_is _ _ _ _ _ h in cc (told.0, told.1)

pub returns-clause-twice : goal.returns-clause-twice
returns-clause-twice c = λ h. let told = step_is _ _ _ _ _ h in cc (told.0, told.1)

pub returns-clause-not_unknown : goal.returns-clause-not_unknown
returns-clause-not_unknown c = λ h. let told = step_is _ _ _ _ _ h in cc (told.0, told.1)

pub returns-clause-no_descriptor : goal.returns-clause-no_descriptor
returns-clause-no_descriptor c = λ h. let told = step_is _ _ _ _ _ h in cc (told.0, told.1)

pub returns-clause-in_its_place : goal.returns-clause-in_its_place
returns-clause-in_its_place c = λ h. let told = step_is _ _ _ _ _ h in cc (told.0, told.1)
