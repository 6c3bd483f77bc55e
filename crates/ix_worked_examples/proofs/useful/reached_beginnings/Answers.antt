use Rattle.std.proofs.Common.{refl, None, codes}
use Rattle.ix_model.specs.Closure.Useful.{sub_at}
use Rattle.ix_closure_laws.specs.Reached.{root, as_child}
use Rattle.ix_examples.specs.SmallPlans.{two_beginnings, two_halves}
use Rattle.ix_closure_laws.proofs.Reaching.{useful_reached}
use Rattle.ix_examples.proofs.SmallPlans.{planned_beginnings, planned_ab, planned_halves}
use Rattle.ix_worked_examples.proofs.SmallUses.{useful_beginning, not_reached, useful_ab, useful_late, next_half}
use Rattle.ix_worked_examples.proofs.useful.reached_beginnings.Goals as goal

pub returns-clause-rule : goal.returns-clause-rule
returns-clause-rule c = root

pub returns-clause-reached : goal.returns-clause-reached
returns-clause-reached c = useful_reached (two_beginnings (codes "a")) planned_beginnings (sub_at 1 0 0 1) useful_beginning

pub returns-clause-not_reached : goal.returns-clause-not_reached
returns-clause-not_reached c = not_reached 3 0 0 1 refl

pub returns-clause-prefix : goal.returns-clause-prefix
returns-clause-prefix c = useful_reached (two_beginnings (codes "ab")) planned_ab (sub_at 3 0 0 1) useful_ab

pub returns-clause-child : goal.returns-clause-child
returns-clause-child c = as_child 1 2 0 1 1 1 None (useful_reached (two_halves (codes "a")) planned_halves (sub_at 2 0 1 1) useful_late) next_half
