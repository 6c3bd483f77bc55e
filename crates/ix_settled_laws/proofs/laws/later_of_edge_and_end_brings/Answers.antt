use Rattle.std.proofs.Common.{[], None, refl}
use Rattle.ix_cluster.proofs.Members.{first_has}
use Rattle.ix_cluster.specs.declared.fact.Fact.TheVariants as fact
use Rattle.ix_settled_laws.proofs.Small.{next_c}
use Rattle.ix_settled_laws.proofs.laws.later_of_edge_and_end_brings.Goals as goal

pub returns-clause-edge : goal.returns-clause-edge
returns-clause-edge c = (1, 1, None, first_has (fact.End 0 0 1) [], next_c, refl)

pub returns-clause-end : goal.returns-clause-end
returns-clause-end c = (0, 0, 1, None, first_has (fact.Edge 0 0 0 0) [], next_c, refl)
