use Rattle.std.proofs.Common.{[]}
use Rattle.ix_examples.specs.SmallPlans.{literal}
use Rattle.ix_cluster.specs.declared.fact.Fact.TheVariants as fact
use Rattle.ix_cluster.proofs.Members.{first_has}
use Rattle.ix_closure.specs.Due.{claim, passed, inserted}
use Rattle.ix_closure.proofs.Small.SmallSteps.{a_stands, next_0_a, next_0_x}
use Rattle.ix_closure.proofs.laws.claimed_descriptor_passes.Goals as goal

pub returns-clause-claim : goal.returns-clause-claim
returns-clause-claim c = claim 0 0 0 (first_has (fact.Desc 0 0 0) [])

pub returns-clause-passed : goal.returns-clause-passed
returns-clause-passed c = passed 0 0 0 1 1 (literal 0) (first_has (fact.Claim 0 0 0) []) next_0_a a_stands

pub returns-clause-inserted : goal.returns-clause-inserted
returns-clause-inserted c = inserted 0 0 0 1 0 (first_has (fact.Claim 0 0 0) []) next_0_x
