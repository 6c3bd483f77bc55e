use Rattle.ix_choice.proofs.SmallTasks.{node_is_entered, other_task_is_kept, other_step_is_not_given, nothing_is_not_enough, same_task_is_no_less}
use Rattle.ix_choice.proofs.laws.tasks_are_done_or_not.Goals as goal

pub returns-clause-entered : goal.returns-clause-entered
returns-clause-entered c = node_is_entered

pub returns-clause-tasks : goal.returns-clause-tasks
returns-clause-tasks c = other_task_is_kept

pub returns-clause-steps : goal.returns-clause-steps
returns-clause-steps c = other_step_is_not_given

pub returns-clause-nothing : goal.returns-clause-nothing
returns-clause-nothing c = nothing_is_not_enough

pub returns-clause-same : goal.returns-clause-same
returns-clause-same c = same_task_is_no_less
