use Rattle.ix_subtrees.proofs.LeftRecursionUses.{useful_left}
use Rattle.ix_subtrees.proofs.laws.left_recursion_is_useful.Goals as goal

pub returns : goal.returns
returns c = useful_left
