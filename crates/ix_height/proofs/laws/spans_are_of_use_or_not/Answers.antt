use Rattle.ix_height.proofs.SmallHeights.{slot_is_of_use, rule_is_of_use, first_slot_is_of_no_use, short_rule_is_of_no_use}
use Rattle.ix_height.proofs.laws.spans_are_of_use_or_not.Goals as goal

pub returns-clause-slot : goal.returns-clause-slot
returns-clause-slot c = slot_is_of_use

pub returns-clause-rule : goal.returns-clause-rule
returns-clause-rule c = rule_is_of_use

pub returns-clause-first : goal.returns-clause-first
returns-clause-first c = first_slot_is_of_no_use

pub returns-clause-short : goal.returns-clause-short
returns-clause-short c = short_rule_is_of_no_use
