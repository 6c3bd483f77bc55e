use Rattle.ix_subtrees.proofs.LeftRecursionSet.{lists_are_the_set, ways_are_not_the_set}
use Rattle.ix_subtrees.proofs.laws.lists_are_the_set_or_not.Goals as goal

pub returns-clause-set : goal.returns-clause-set
returns-clause-set c = lists_are_the_set

pub returns-clause-missing : goal.returns-clause-missing
returns-clause-missing c = ways_are_not_the_set
