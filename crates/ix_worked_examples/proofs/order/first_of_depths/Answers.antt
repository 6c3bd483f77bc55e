use Rattle.ix_examples.specs.SmallTrees.{deeper, shallower}
use Rattle.ix_worked_examples.proofs.DepthsAndRuns.{deeper_derives, shallower_derives, deeper_is_first, shallower_is_not_first}
use Rattle.ix_worked_examples.proofs.order.first_of_depths.Goals as goal

pub returns-clause-deeper : goal.returns-clause-deeper
returns-clause-deeper c = deeper_is_first

pub returns-clause-shallower : goal.returns-clause-shallower
returns-clause-shallower c = shallower_is_not_first

pub returns-clause-ambiguous : goal.returns-clause-ambiguous
returns-clause-ambiguous c = (deeper, shallower, deeper_derives, shallower_derives, λ e. cc e)
