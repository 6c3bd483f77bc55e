use Rattle.ix_subtrees.proofs.SmallSets.{parts_a}
use Rattle.ix_subtrees.proofs.SmallEntries.{part_is_left_out}
use Rattle.ix_subtrees.proofs.laws.subtrees_are_listed_or_missed.Goals as goal

pub returns-clause-listed : goal.returns-clause-listed
returns-clause-listed c = parts_a

pub returns-clause-missed : goal.returns-clause-missed
returns-clause-missed c = part_is_left_out
