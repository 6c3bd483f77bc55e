use Rattle.std.proofs.Common.{refl, codes}
use Rattle.ix_worked_examples.proofs.EmptyTexts.{between_two, none_other, none_behind, none_of_two}
use Rattle.ix_worked_examples.proofs.empties.separators_nowhere_else.Goals as goal

pub returns-clause-between : goal.returns-clause-between
returns-clause-between c = between_two

pub returns-clause-other : goal.returns-clause-other
returns-clause-other c = λ d h. none_other d h

pub returns-clause-behind : goal.returns-clause-behind
returns-clause-behind c = none_behind

pub returns-clause-in_front : goal.returns-clause-in_front
returns-clause-in_front c = λ d h. none_of_two (codes ",a") d refl h

pub returns-clause-left_out : goal.returns-clause-left_out
returns-clause-left_out c = λ d h. none_of_two (codes "aa") d refl h
