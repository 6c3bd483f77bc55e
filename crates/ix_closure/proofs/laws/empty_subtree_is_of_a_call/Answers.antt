use Rattle.std.proofs.Common.{refl, arith}
use Rattle.ix_closure.proofs.Small.SmallSteps.{nothing_first, nothing_last}
use Rattle.ix_closure.proofs.laws.empty_subtree_is_of_a_call.Goals as goal

pub returns-clause-empty : goal.returns-clause-empty
returns-clause-empty c = (0, nothing_first, nothing_last, (0, omega arith, refl), refl)
