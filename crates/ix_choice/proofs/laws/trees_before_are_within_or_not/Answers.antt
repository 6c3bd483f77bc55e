use Rattle.ix_choice.proofs.SmallChoices.{two_are_within_one, two_are_not_within_zero, one_is_too_few}
use Rattle.ix_choice.proofs.laws.trees_before_are_within_or_not.Goals as goal

pub returns-clause-within : goal.returns-clause-within
returns-clause-within c = two_are_within_one

pub returns-clause-high : goal.returns-clause-high
returns-clause-high c = two_are_not_within_zero

pub returns-clause-few : goal.returns-clause-few
returns-clause-few c = one_is_too_few
