use Rattle.ix_examples.specs.SmallTrees.{left_sum, right_sum}
use Rattle.ix_worked_examples.proofs.FirstTexts.{left_derives, right_derives, left_or_right}
use Rattle.ix_worked_examples.proofs.derivations.sums_of_three.Goals as goal

pub returns-clause-left : goal.returns-clause-left
returns-clause-left c = left_derives

pub returns-clause-right : goal.returns-clause-right
returns-clause-right c = right_derives

pub returns-clause-no_third : goal.returns-clause-no_third
returns-clause-no_third c = left_or_right

pub returns-clause-ambiguous : goal.returns-clause-ambiguous
returns-clause-ambiguous c = (left_sum, right_sum, left_derives, right_derives, λ e. cc e)
