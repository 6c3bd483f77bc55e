use Rattle.ix_height.proofs.SmallHeights.{rule_is_found, slot_is_not_found}
use Rattle.ix_height.proofs.laws.heights_are_found_or_not.Goals as goal

pub returns-clause-rule : goal.returns-clause-rule
returns-clause-rule c = rule_is_found

pub returns-clause-slot : goal.returns-clause-slot
returns-clause-slot c = slot_is_not_found
