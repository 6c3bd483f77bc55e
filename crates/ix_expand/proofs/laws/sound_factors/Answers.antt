use Rattle.std.proofs.Common.{refl}
use Rattle.ix_expand.proofs.laws.sound_factors.Goals as goal

pub returns-clause-defined : goal.returns-clause-defined
returns-clause-defined c = record { numbers = tt; code_points = tt; calls = ((0, (_, refl, refl)), tt) }
