use Rattle.ix_worked_examples.proofs.EmptyTexts.{present_is_first, no_item_is_first, one_is_first}
use Rattle.ix_worked_examples.proofs.empties.first_of_empty_literals.Goals as goal

pub returns-clause-option : goal.returns-clause-option
returns-clause-option c = present_is_first

pub returns-clause-star : goal.returns-clause-star
returns-clause-star c = no_item_is_first

pub returns-clause-plus : goal.returns-clause-plus
returns-clause-plus c = one_is_first
