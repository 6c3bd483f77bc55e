use Rattle.ix_height.proofs.SmallHeights.{rule_has_its_number, slot_has_another}
use Rattle.ix_height.proofs.laws.spans_have_their_numbers.Goals as goal

pub returns-clause-rule : goal.returns-clause-rule
returns-clause-rule c = rule_has_its_number

pub returns-clause-slot : goal.returns-clause-slot
returns-clause-slot c = slot_has_another
