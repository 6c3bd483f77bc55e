use Rattle.std.proofs.Common.{◌<◌, refl, arith}
use Rattle.ix_examples.specs.SmallRules.{shown}
use Rattle.ix_slots.proofs.laws.rules_without_a_terminal.Goals as goal

pub returns : goal.returns
returns c = λ h. let below : 0 < 0 = h.symbols 0 0 0 (shown 0) refl in omega (arith, below)
