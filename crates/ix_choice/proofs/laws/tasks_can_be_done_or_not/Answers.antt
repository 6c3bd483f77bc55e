use Rattle.ix_choice.proofs.SmallTasks.{trees_can_be_done, too_high_cannot_be_done}
use Rattle.ix_choice.proofs.laws.tasks_can_be_done_or_not.Goals as goal

pub returns-clause-can : goal.returns-clause-can
returns-clause-can c = trees_can_be_done

pub returns-clause-not : goal.returns-clause-not
returns-clause-not c = too_high_cannot_be_done
