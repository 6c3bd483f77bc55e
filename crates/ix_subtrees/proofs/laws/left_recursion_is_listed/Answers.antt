use Rattle.ix_subtrees.proofs.LeftRecursion.{parts_left, once_left}
use Rattle.ix_subtrees.proofs.laws.left_recursion_is_listed.Goals as goal

pub returns-clause-listed : goal.returns-clause-listed
returns-clause-listed c = parts_left

pub returns-clause-once : goal.returns-clause-once
returns-clause-once c = once_left
