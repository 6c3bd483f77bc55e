use Rattle.std.proofs.Common.{refl, codes, arith}
use Rattle.ix_worked_examples.proofs.refusals.near_repeats.Goals as goal

pub returns-clause-apart : goal.returns-clause-apart
returns-clause-apart c = (2, codes "x", refl, (0, omega arith, refl))
