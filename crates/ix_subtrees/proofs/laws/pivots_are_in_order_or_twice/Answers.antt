use Rattle.ix_subtrees.proofs.SmallEntries.{pivots_are_in_order, twice_is_not_in_order}
use Rattle.ix_subtrees.proofs.laws.pivots_are_in_order_or_twice.Goals as goal

pub returns-clause-order : goal.returns-clause-order
returns-clause-order c = pivots_are_in_order

pub returns-clause-twice : goal.returns-clause-twice
returns-clause-twice c = twice_is_not_in_order
