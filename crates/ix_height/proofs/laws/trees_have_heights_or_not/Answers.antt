use Rattle.ix_height.proofs.SmallHeights.{once_has_one, around_has_two, slot_has_none, rule_has_more}
use Rattle.ix_height.proofs.laws.trees_have_heights_or_not.Goals as goal

pub returns-clause-once : goal.returns-clause-once
returns-clause-once c = once_has_one

pub returns-clause-around : goal.returns-clause-around
returns-clause-around c = around_has_two

pub returns-clause-slot : goal.returns-clause-slot
returns-clause-slot c = slot_has_none

pub returns-clause-more : goal.returns-clause-more
returns-clause-more c = rule_has_more
