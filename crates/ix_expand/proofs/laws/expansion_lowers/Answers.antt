use Rattle.ix_expand.proofs.PlanOf.{plan_of}
use Rattle.ix_expand.proofs.laws.expansion_lowers.Goals as goal

pub returns : goal.returns
returns c = λ g plan d conforming text expanded h. c.lower_is_exact.ensures g plan d (plan_of g plan conforming text expanded) h
