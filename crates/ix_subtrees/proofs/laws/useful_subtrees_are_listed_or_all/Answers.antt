use Rattle.ix_subtrees.proofs.LeftRecursionSet.{three_are_useful, closure_is_not_useful}
use Rattle.ix_subtrees.proofs.laws.useful_subtrees_are_listed_or_all.Goals as goal

pub returns-clause-useful : goal.returns-clause-useful
returns-clause-useful c = three_are_useful

pub returns-clause-all : goal.returns-clause-all
returns-clause-all c = closure_is_not_useful
