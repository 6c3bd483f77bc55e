use Rattle.ix_subtrees.proofs.LeftRecursionSet.{alts_are_listed, empty_alt_is_not_left_out}
use Rattle.ix_subtrees.proofs.laws.alternatives_are_listed_or_left_out.Goals as goal

pub returns-clause-listed : goal.returns-clause-listed
returns-clause-listed c = alts_are_listed

pub returns-clause-left_out : goal.returns-clause-left_out
returns-clause-left_out c = empty_alt_is_not_left_out
