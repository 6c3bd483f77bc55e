use Rattle.ix_expand.proofs.PlanOf.{plan_of}
use Rattle.ix_expand.proofs.laws.conforming_is_plan_of.Goals as goal

pub returns : goal.returns
returns c = λ g plan conforming text expanded. plan_of g plan conforming text expanded
