use Rattle.ix_worked_examples.proofs.EnteredRules.{call_entered, literal_entered, earlier_of_called, later_of_called, not_called, earlier_of_group, later_of_group}
use Rattle.ix_worked_examples.proofs.entered.entered_alternatives.Goals as goal

pub returns-clause-earlier : goal.returns-clause-earlier
returns-clause-earlier c = call_entered

pub returns-clause-later : goal.returns-clause-later
returns-clause-later c = literal_entered

pub returns-clause-earlier_of_called : goal.returns-clause-earlier_of_called
returns-clause-earlier_of_called c = earlier_of_called

pub returns-clause-later_of_called : goal.returns-clause-later_of_called
returns-clause-later_of_called c = later_of_called

pub returns-clause-not_called : goal.returns-clause-not_called
returns-clause-not_called c = not_called

pub returns-clause-earlier_of_group : goal.returns-clause-earlier_of_group
returns-clause-earlier_of_group c = earlier_of_group

pub returns-clause-later_of_group : goal.returns-clause-later_of_group
returns-clause-later_of_group c = later_of_group
