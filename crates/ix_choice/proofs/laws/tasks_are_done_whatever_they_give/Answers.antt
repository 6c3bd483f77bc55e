use Rattle.ix_choice.proofs.SmallTasks.{leave_is_done_by_its_step, leave_is_not_done_by_nothing, no_tree_is_done_by_nothing}
use Rattle.ix_choice.proofs.laws.tasks_are_done_whatever_they_give.Goals as goal

pub returns-clause-done : goal.returns-clause-done
returns-clause-done c = leave_is_done_by_its_step

pub returns-clause-not : goal.returns-clause-not
returns-clause-not c = leave_is_not_done_by_nothing

pub returns-clause-nothing : goal.returns-clause-nothing
returns-clause-nothing c = no_tree_is_done_by_nothing
