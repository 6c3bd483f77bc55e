use Rattle.std.proofs.Common.{refl, arith}
use Rattle.ix_closure.proofs.laws.step_is_owed_once.Goals as goal

pub returns-clause-recorded : goal.returns-clause-recorded
returns-clause-recorded c = λ h. h.1 (3, omega arith, refl)
