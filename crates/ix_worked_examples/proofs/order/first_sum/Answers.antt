use Rattle.ix_worked_examples.proofs.FirstTexts.{right_is_first, left_is_not_first}
use Rattle.ix_worked_examples.proofs.order.first_sum.Goals as goal

pub returns-clause-right : goal.returns-clause-right
returns-clause-right c = right_is_first

pub returns-clause-left : goal.returns-clause-left
returns-clause-left c = left_is_not_first
