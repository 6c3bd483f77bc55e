use Rattle.ix_choice.proofs.SmallChoices.{literal_ends_within_zero, call_ends_within_one, later_rule_has_its_end, call_is_too_high, literal_is_not_first, beginning_is_no_end}
use Rattle.ix_choice.proofs.laws.slots_end_alternatives_or_not.Goals as goal

pub returns-clause-literal : goal.returns-clause-literal
returns-clause-literal c = literal_ends_within_zero

pub returns-clause-call : goal.returns-clause-call
returns-clause-call c = call_ends_within_one

pub returns-clause-rule : goal.returns-clause-rule
returns-clause-rule c = later_rule_has_its_end

pub returns-clause-high : goal.returns-clause-high
returns-clause-high c = call_is_too_high

pub returns-clause-later : goal.returns-clause-later
returns-clause-later c = literal_is_not_first

pub returns-clause-beginning : goal.returns-clause-beginning
returns-clause-beginning c = beginning_is_no_end
