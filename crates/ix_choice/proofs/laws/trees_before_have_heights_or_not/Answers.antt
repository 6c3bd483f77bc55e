use Rattle.ix_choice.proofs.SmallChoices.{none_is_flat, one_is_one_high, one_is_not_flat, one_is_not_two_high}
use Rattle.ix_choice.proofs.laws.trees_before_have_heights_or_not.Goals as goal

pub returns-clause-none : goal.returns-clause-none
returns-clause-none c = none_is_flat

pub returns-clause-one : goal.returns-clause-one
returns-clause-one c = one_is_one_high

pub returns-clause-lower : goal.returns-clause-lower
returns-clause-lower c = one_is_not_flat

pub returns-clause-higher : goal.returns-clause-higher
returns-clause-higher c = one_is_not_two_high
