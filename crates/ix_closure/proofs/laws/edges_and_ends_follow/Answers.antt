use Rattle.std.proofs.Common.{[], ◌∷◌, None, refl, arith}
use Rattle.ix_cluster.specs.declared.fact.Fact.TheVariants as fact
use Rattle.ix_cluster.proofs.Members.{first_has}
use Rattle.ix_closure.specs.Due.{waits, ends, meets}
use Rattle.ix_closure.proofs.Small.SmallSteps.{next_0_c, nothing_last}
use Rattle.ix_closure.proofs.laws.edges_and_ends_follow.Goals as goal

pub returns-clause-waits : goal.returns-clause-waits
returns-clause-waits c = waits 0 0 0 1 0 None (first_has (fact.Claim 0 0 0) []) next_0_c

pub returns-clause-ends : goal.returns-clause-ends
returns-clause-ends c = ends 0 0 0 0 (first_has (fact.Claim 0 0 0) []) nothing_last

pub returns-clause-meets : goal.returns-clause-meets
returns-clause-meets c = meets 0 0 0 0 1 1 None (first_has (fact.Edge 0 0 0 0) (fact.End 0 0 1 ∷ [])) (1, omega arith, refl) next_0_c
