use Rattle.ix_choice.proofs.SmallChoices.{sooner_is_least, only_is_least, later_is_not_least, none_is_least_within_zero}
use Rattle.ix_choice.proofs.laws.one_start_is_the_least.Goals as goal

pub returns-clause-least : goal.returns-clause-least
returns-clause-least c = sooner_is_least

pub returns-clause-only : goal.returns-clause-only
returns-clause-only c = only_is_least

pub returns-clause-later : goal.returns-clause-later
returns-clause-later c = later_is_not_least

pub returns-clause-none : goal.returns-clause-none
returns-clause-none c = none_is_least_within_zero
