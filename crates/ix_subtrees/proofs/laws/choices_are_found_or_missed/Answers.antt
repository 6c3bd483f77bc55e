use Rattle.ix_subtrees.proofs.SmallEntries.{choice_is_found, choice_is_not_missed}
use Rattle.ix_subtrees.proofs.laws.choices_are_found_or_missed.Goals as goal

pub returns-clause-found : goal.returns-clause-found
returns-clause-found c = choice_is_found

pub returns-clause-missed : goal.returns-clause-missed
returns-clause-missed c = choice_is_not_missed
