use Rattle.std.proofs.Common.{refl, None, codes, arith}
use Rattle.ix_model.specs.Closure.Closed.{arrived, waiting}
use Rattle.ix_examples.specs.SmallPlans.{two_halves}
use Rattle.ix_closure_laws.proofs.ClosedLinks.{edge_from}
use Rattle.ix_examples.proofs.SmallPlans.{planned_halves}
use Rattle.ix_worked_examples.proofs.PlanFacts.{useful_part, pivot_within, passed_none}
use Rattle.ix_worked_examples.proofs.SmallUses.{useful_early, useful_late, useful_half, useful_empty, next_half}
use Rattle.ix_worked_examples.proofs.closure.pivots_of_two_halves.Goals as goal

pub returns-clause-at_start : goal.returns-clause-at_start
returns-clause-at_start c = useful_part (two_halves (codes "a")) planned_halves 2 0 0 1 useful_early

pub returns-clause-at_end : goal.returns-clause-at_end
returns-clause-at_end c = useful_part (two_halves (codes "a")) planned_halves 2 0 1 1 useful_late

pub returns-clause-not_behind : goal.returns-clause-not_behind
returns-clause-not_behind c = λ h. omega (arith, pivot_within (two_halves (codes "a")) 2 0 2 1 h)

pub returns-clause-empty_half : goal.returns-clause-empty_half
returns-clause-empty_half c = useful_part (two_halves (codes "a")) planned_halves 5 1 1 1 useful_empty

pub returns-clause-second_edge : goal.returns-clause-second_edge
returns-clause-second_edge c = waiting 1 0 1 2 1 None (arrived 1 0 0 1 (useful_part (two_halves (codes "a")) planned_halves 1 0 0 1 useful_half)) next_half

pub returns-clause-not_before : goal.returns-clause-not_before
returns-clause-not_before c = λ h. omega (arith, passed_none (two_halves (codes "a")) 0 0 1 0 0 refl (edge_from (two_halves (codes "a")) 1 1 0 0 h).0)
