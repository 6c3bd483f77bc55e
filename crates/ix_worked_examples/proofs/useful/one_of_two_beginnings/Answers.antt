use Rattle.std.proofs.Common.{refl, codes}
use Rattle.ix_model.specs.Closure.Useful.{sub_at}
use Rattle.ix_examples.specs.SmallPlans.{two_beginnings}
use Rattle.ix_closure_laws.proofs.Reaching.{useful_reached}
use Rattle.ix_examples.proofs.SmallPlans.{planned_beginnings}
use Rattle.ix_worked_examples.proofs.PlanFacts.{useful_part}
use Rattle.ix_worked_examples.proofs.SmallUses.{useful_beginning, part_3, not_reached, useful_ab}
use Rattle.ix_worked_examples.proofs.useful.one_of_two_beginnings.Goals as goal

pub returns-clause-part : goal.returns-clause-part
returns-clause-part c = useful_part (two_beginnings (codes "a")) planned_beginnings 1 0 0 1 useful_beginning

pub returns-clause-other_part : goal.returns-clause-other_part
returns-clause-other_part c = part_3

pub returns-clause-useful : goal.returns-clause-useful
returns-clause-useful c = useful_beginning

pub returns-clause-useless : goal.returns-clause-useless
returns-clause-useless c = λ h. not_reached 3 0 0 1 refl (useful_reached (two_beginnings (codes "a")) planned_beginnings (sub_at 3 0 0 1) h)

pub returns-clause-useful_on_ab : goal.returns-clause-useful_on_ab
returns-clause-useful_on_ab c = useful_ab
