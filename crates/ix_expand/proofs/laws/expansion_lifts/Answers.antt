use Rattle.ix_expand.proofs.PlanOf.{plan_of}
use Rattle.ix_expand.proofs.laws.expansion_lifts.Goals as goal

pub returns : goal.returns
returns c = λ g plan e conforming text expanded h. c.lift_is_exact.ensures g plan e (plan_of g plan conforming text expanded) h
