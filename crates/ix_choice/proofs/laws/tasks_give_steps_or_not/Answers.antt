use Rattle.ix_choice.proofs.SmallTasks.{no_task_gives_nothing, no_task_gives_no_step, no_task_is_none, last_comes_first, first_comes_last, sizes_are_added}
use Rattle.ix_choice.proofs.laws.tasks_give_steps_or_not.Goals as goal

pub returns-clause-none : goal.returns-clause-none
returns-clause-none c = no_task_gives_nothing

pub returns-clause-no_step : goal.returns-clause-no_step
returns-clause-no_step c = no_task_gives_no_step

pub returns-clause-no_size : goal.returns-clause-no_size
returns-clause-no_size c = no_task_is_none

pub returns-clause-order : goal.returns-clause-order
returns-clause-order c = last_comes_first

pub returns-clause-exchanged : goal.returns-clause-exchanged
returns-clause-exchanged c = first_comes_last

pub returns-clause-size : goal.returns-clause-size
returns-clause-size c = sizes_are_added
