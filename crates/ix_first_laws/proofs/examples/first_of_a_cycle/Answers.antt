use Rattle.std.proofs.Common.{refl}
use Rattle.ix_examples.specs.SmallPlans.{a_by}
use Rattle.ix_first_laws.proofs.CycleTrees.{a_cycle, cycle_best, derived_a, not_before}
use Rattle.ix_first_laws.proofs.FlatFirsts.{best_is_first}
use Rattle.ix_first_laws.proofs.examples.first_of_a_cycle.Goals as goal

pub returns-clause-first : goal.returns-clause-first
returns-clause-first c = best_is_first a_cycle refl 1 (a_by 1) (cycle_best 0)

pub returns-clause-higher : goal.returns-clause-higher
returns-clause-higher c = λ h. not_before (h.1 (a_by 1) derived_a (λ e. cc e))
