use Rattle.ix_height.proofs.SmallHeights.{letter_is_a_way, whole_is_a_way, call_is_a_way, call_needs_its_rule}
use Rattle.ix_height.proofs.laws.spans_have_ways_or_not.Goals as goal

pub returns-clause-letter : goal.returns-clause-letter
returns-clause-letter c = letter_is_a_way

pub returns-clause-whole : goal.returns-clause-whole
returns-clause-whole c = whole_is_a_way

pub returns-clause-call : goal.returns-clause-call
returns-clause-call c = call_is_a_way

pub returns-clause-needed : goal.returns-clause-needed
returns-clause-needed c = call_needs_its_rule
