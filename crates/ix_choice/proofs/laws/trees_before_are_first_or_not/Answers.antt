use Rattle.ix_choice.proofs.SmallChoices.{sooner_is_first, later_is_not_first, none_is_first_within_zero}
use Rattle.ix_choice.proofs.laws.trees_before_are_first_or_not.Goals as goal

pub returns-clause-first : goal.returns-clause-first
returns-clause-first c = sooner_is_first

pub returns-clause-later : goal.returns-clause-later
returns-clause-later c = later_is_not_first

pub returns-clause-high : goal.returns-clause-high
returns-clause-high c = none_is_first_within_zero
