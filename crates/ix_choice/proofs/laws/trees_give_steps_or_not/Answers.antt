use Rattle.ix_choice.proofs.SmallTasks.{tree_gives_its_steps, mark_is_that_of_the_call, tree_is_left, tree_is_five_tasks, tree_is_too_high, tree_is_of_no_use}
use Rattle.ix_choice.proofs.laws.trees_give_steps_or_not.Goals as goal

pub returns-clause-steps : goal.returns-clause-steps
returns-clause-steps c = tree_gives_its_steps

pub returns-clause-mark : goal.returns-clause-mark
returns-clause-mark c = mark_is_that_of_the_call

pub returns-clause-less : goal.returns-clause-less
returns-clause-less c = tree_is_left

pub returns-clause-size : goal.returns-clause-size
returns-clause-size c = tree_is_five_tasks

pub returns-clause-high : goal.returns-clause-high
returns-clause-high c = tree_is_too_high

pub returns-clause-useless : goal.returns-clause-useless
returns-clause-useless c = tree_is_of_no_use
