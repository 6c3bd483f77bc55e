use Rattle.std.proofs.Common.{arith, refl}
use Rattle.ix_slots.specs.Plannable.{planned}
use Rattle.ix_slots.proofs.FewRules.{few_rules}
use Rattle.ix_slots.proofs.laws.expanded_is_plannable.Goals as goal

pub returns : goal.returns
returns c = λ g rules text first e small slots short.
    c.expanded_is_planned.ensures g (planned rules text) first e refl (omega (arith, few_rules g rules e, small)) (omega (arith, slots, small)) (omega (arith, short))
