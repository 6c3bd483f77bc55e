use Rattle.ix_subtrees.proofs.LeftRecursionSet.{ways_are_listed, useless_way_is_not_listed}
use Rattle.ix_subtrees.proofs.laws.pivots_are_listed_or_one_more.Goals as goal

pub returns-clause-listed : goal.returns-clause-listed
returns-clause-listed c = ways_are_listed

pub returns-clause-more : goal.returns-clause-more
returns-clause-more c = useless_way_is_not_listed
