use Rattle.ix_choice.proofs.SmallChoices.{slot_is_of_use, beginning_is_of_use, slot_is_of_no_use, no_slot_is_of_no_use}
use Rattle.ix_choice.proofs.laws.slots_are_of_use_or_not.Goals as goal

pub returns-clause-slot : goal.returns-clause-slot
returns-clause-slot c = slot_is_of_use

pub returns-clause-beginning : goal.returns-clause-beginning
returns-clause-beginning c = beginning_is_of_use

pub returns-clause-not : goal.returns-clause-not
returns-clause-not c = slot_is_of_no_use

pub returns-clause-past : goal.returns-clause-past
returns-clause-past c = no_slot_is_of_no_use
