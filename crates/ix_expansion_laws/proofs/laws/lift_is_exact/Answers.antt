use Rattle.ix_expansion_laws.proofs.Lifting.{lift_derives}
use Rattle.ix_model.proofs.Readers.{get_within}
use Rattle.ix_expansion_laws.proofs.LowerOfLift.{lower_lift}
use Rattle.ix_expansion_laws.proofs.laws.lift_is_exact.Goals as goal

pub returns : goal.returns
returns c = λ g plan e p h.
    let rule = get_within g.rules 0 p.first in
    (lift_derives g plan.rules plan.slots plan.text p.text p.expanded rule.0 rule.1 e h, lower_lift g plan.rules plan.slots plan.text p.text p.expanded rule.0 rule.1 e h)
