use Rattle.ix_height.proofs.SmallHeights.{rule_is_answered, no_use_is_no_answer, answer_is_not_left_out, no_use_is_not_answered}
use Rattle.ix_height.proofs.laws.spans_are_answered_or_not.Goals as goal

pub returns-clause-some : goal.returns-clause-some
returns-clause-some c = rule_is_answered

pub returns-clause-none : goal.returns-clause-none
returns-clause-none c = no_use_is_no_answer

pub returns-clause-left_out : goal.returns-clause-left_out
returns-clause-left_out c = answer_is_not_left_out

pub returns-clause-too_many : goal.returns-clause-too_many
returns-clause-too_many c = no_use_is_not_answered
