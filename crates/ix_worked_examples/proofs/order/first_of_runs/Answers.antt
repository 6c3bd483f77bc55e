use Rattle.ix_examples.specs.SmallTrees.{one_run, two_runs}
use Rattle.ix_worked_examples.proofs.DepthsAndRuns.{one_run_derives, two_runs_derive, one_run_is_first, two_runs_are_not_first}
use Rattle.ix_worked_examples.proofs.order.first_of_runs.Goals as goal

pub returns-clause-one : goal.returns-clause-one
returns-clause-one c = one_run_is_first

pub returns-clause-two : goal.returns-clause-two
returns-clause-two c = two_runs_are_not_first

pub returns-clause-ambiguous : goal.returns-clause-ambiguous
returns-clause-ambiguous c = (one_run, two_runs, one_run_derives, two_runs_derive, λ e. cc e)
