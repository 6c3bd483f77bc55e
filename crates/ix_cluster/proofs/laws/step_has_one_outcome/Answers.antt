use Rattle.ix_cluster.proofs.StepCases.{step_from, step_is, step_appends, claim_is_mark}
use Rattle.ix_cluster.proofs.laws.step_has_one_outcome.Goals as goal

pub returns-clause-one : goal.returns-clause-one
returns-clause-one c = λ plan log call answer after. (step_is plan log call answer after, λ h. step_from plan log call answer after h.0 h.1)

pub returns-clause-appends : goal.returns-clause-appends
returns-clause-appends c = step_appends

pub returns-clause-mark : goal.returns-clause-mark
returns-clause-mark c = claim_is_mark
