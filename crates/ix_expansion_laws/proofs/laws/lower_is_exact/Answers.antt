use Rattle.ix_expansion_laws.proofs.Lowering.{lower_derives}
use Rattle.ix_expansion_laws.proofs.LiftOfLower.{lift_lower}
use Rattle.ix_expansion_laws.proofs.laws.lower_is_exact.Goals as goal

pub returns : goal.returns
returns c = λ g plan d p h. (lower_derives g plan.rules plan.slots plan.text p.text p.expanded p.unique d h, lift_lower g plan.rules plan.text p.expanded p.unique d h)
