use Rattle.std.proofs.Common.{[], refl}
use Rattle.ix_cluster.specs.declared.fact.Fact.TheVariants as fact
use Rattle.ix_cluster.proofs.Members.{first_has, none_has}
use Rattle.ix_closure.proofs.laws.recorded_steps_are_not_lacking.Goals as goal

pub returns-clause-lacking : goal.returns-clause-lacking
returns-clause-lacking c = (refl, λ h. none_has (fact.End 0 0 0) h)

pub returns-clause-recorded : goal.returns-clause-recorded
returns-clause-recorded c = λ h. h.1 (first_has (fact.End 0 0 0) [])

pub returns-clause-other : goal.returns-clause-other
returns-clause-other c = λ h. cc (h.0)
