use Rattle.std.proofs.Common.{◌<◌, refl, arith}
use Rattle.ix_examples.specs.SmallRules.{shown}
use Rattle.ix_worked_examples.proofs.plans.plan_of_literal.Goals as goal

pub returns-clause-not_there : goal.returns-clause-not_there
returns-clause-not_there c = λ h. let below : 1 < 1 = h 0 0 0 (shown 1) refl in omega (arith, below)
