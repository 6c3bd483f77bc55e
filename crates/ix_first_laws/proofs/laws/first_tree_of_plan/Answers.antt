use Rattle.ix_model.specs.Expansion.Lift.{lift}
use Rattle.ix_expansion_laws.proofs.Walking.{flat_walks}
use Rattle.ix_first_laws.proofs.FirstLifts.{first_lifts}
use Rattle.ix_first_laws.proofs.laws.first_tree_of_plan.Goals as goal

pub returns : goal.returns
returns c = λ g plan e p h. (lift plan.rules e, first_lifts g plan p e h, flat_walks g plan e p h.0)
