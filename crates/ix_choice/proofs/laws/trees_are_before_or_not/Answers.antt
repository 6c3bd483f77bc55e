use Rattle.ix_choice.proofs.SmallChoices.{none_is_before, one_is_before, two_are_before, two_are_too_many, one_has_its_span}
use Rattle.ix_choice.proofs.laws.trees_are_before_or_not.Goals as goal

pub returns-clause-none : goal.returns-clause-none
returns-clause-none c = none_is_before

pub returns-clause-one : goal.returns-clause-one
returns-clause-one c = one_is_before

pub returns-clause-two : goal.returns-clause-two
returns-clause-two c = two_are_before

pub returns-clause-many : goal.returns-clause-many
returns-clause-many c = two_are_too_many

pub returns-clause-span : goal.returns-clause-span
returns-clause-span c = one_has_its_span
