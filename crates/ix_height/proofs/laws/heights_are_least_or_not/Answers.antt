use Rattle.ix_height.proofs.SmallHeights.{once_is_least, around_is_not_least, least_is_not_left_out}
use Rattle.ix_height.proofs.laws.heights_are_least_or_not.Goals as goal

pub returns-clause-least : goal.returns-clause-least
returns-clause-least c = once_is_least

pub returns-clause-higher : goal.returns-clause-higher
returns-clause-higher c = around_is_not_least

pub returns-clause-left_out : goal.returns-clause-left_out
returns-clause-left_out c = least_is_not_left_out
