use Rattle.ix_worked_examples.proofs.SmallReadings.{a_again, separator_entered, item_again, not_directly}
use Rattle.ix_worked_examples.proofs.readings.entered_again.Goals as goal

pub returns-clause-item : goal.returns-clause-item
returns-clause-item c = a_again

pub returns-clause-separator : goal.returns-clause-separator
returns-clause-separator c = separator_entered

pub returns-clause-behind_separator : goal.returns-clause-behind_separator
returns-clause-behind_separator c = item_again

pub returns-clause-not_without : goal.returns-clause-not_without
returns-clause-not_without c = not_directly
