use Rattle.ix_choice.proofs.SmallTasks.{trees_give_their_steps, deleted_is_not_shown, trees_are_in_order, trees_are_eleven_tasks, trees_are_too_high, trees_are_of_no_use}
use Rattle.ix_choice.proofs.laws.slots_give_steps_or_not.Goals as goal

pub returns-clause-steps : goal.returns-clause-steps
returns-clause-steps c = trees_give_their_steps

pub returns-clause-symbols : goal.returns-clause-symbols
returns-clause-symbols c = deleted_is_not_shown

pub returns-clause-order : goal.returns-clause-order
returns-clause-order c = trees_are_in_order

pub returns-clause-size : goal.returns-clause-size
returns-clause-size c = trees_are_eleven_tasks

pub returns-clause-high : goal.returns-clause-high
returns-clause-high c = trees_are_too_high

pub returns-clause-useless : goal.returns-clause-useless
returns-clause-useless c = trees_are_of_no_use
