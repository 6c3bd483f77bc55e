use Rattle.std.proofs.Common.{refl}
use Rattle.ix_model.specs.Documents.Bare.{bare_root}
use Rattle.ix_model.specs.Expansion.Lift.{lift}
use Rattle.ix_expansion_laws.proofs.Walking.{flat_walks}
use Rattle.ix_expansion_laws.proofs.laws.walk_gives_document.Goals as goal

pub returns : goal.returns
returns c = λ g plan e p h. (bare_root g (lift plan.rules e), flat_walks g plan e p h, refl)
