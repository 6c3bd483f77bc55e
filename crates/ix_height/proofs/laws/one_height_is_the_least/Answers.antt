use Rattle.ix_height.proofs.SmallHeights.{one_is_the_least, two_is_not_the_least, zero_is_no_height}
use Rattle.ix_height.proofs.laws.one_height_is_the_least.Goals as goal

pub returns-clause-one : goal.returns-clause-one
returns-clause-one c = one_is_the_least

pub returns-clause-two : goal.returns-clause-two
returns-clause-two c = two_is_not_the_least

pub returns-clause-zero : goal.returns-clause-zero
returns-clause-zero c = zero_is_no_height
