use Rattle.ix_offset_laws.proofs.SmallEntered.{later_alternative, later_group, later_option}
use Rattle.ix_offset_laws.proofs.laws.entered_later.Goals as goal

pub returns-clause-alternative : goal.returns-clause-alternative
returns-clause-alternative c = later_alternative

pub returns-clause-group : goal.returns-clause-group
returns-clause-group c = later_group

pub returns-clause-option : goal.returns-clause-option
returns-clause-option c = later_option
