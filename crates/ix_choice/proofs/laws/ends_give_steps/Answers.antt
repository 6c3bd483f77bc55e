use Rattle.ix_choice.proofs.SmallTasks.{leave_gives_its_step, leave_gives_no_less, leave_is_one_task}
use Rattle.ix_choice.proofs.laws.ends_give_steps.Goals as goal

pub returns-clause-steps : goal.returns-clause-steps
returns-clause-steps c = leave_gives_its_step

pub returns-clause-less : goal.returns-clause-less
returns-clause-less c = leave_gives_no_less

pub returns-clause-size : goal.returns-clause-size
returns-clause-size c = leave_is_one_task
