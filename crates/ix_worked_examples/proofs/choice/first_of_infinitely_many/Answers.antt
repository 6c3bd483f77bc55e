use Rattle.ix_worked_examples.proofs.Rivals.{cycle_is_unique, as_high, first_is_literal}
use Rattle.ix_worked_examples.proofs.choice.first_of_infinitely_many.Goals as goal

pub returns-clause-unique : goal.returns-clause-unique
returns-clause-unique c = cycle_is_unique

pub returns-clause-higher : goal.returns-clause-higher
returns-clause-higher c = as_high

pub returns-clause-first : goal.returns-clause-first
returns-clause-first c = first_is_literal
