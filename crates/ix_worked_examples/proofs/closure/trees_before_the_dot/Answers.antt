use Rattle.std.proofs.Common.{refl, true, arith}
use Rattle.ix_model.specs.Closure.Closed.{start}
use Rattle.ix_worked_examples.proofs.closure.trees_before_the_dot.Goals as goal

pub returns-clause-covers : goal.returns-clause-covers
returns-clause-covers c = (0, 0, _, refl, (_, _, refl, refl, refl), (0, _, refl, refl, (refl, refl, (0, true, _, refl, refl, (refl, omega arith, refl)))))

pub returns-clause-none_yet : goal.returns-clause-none_yet
returns-clause-none_yet c = (0, 0, _, refl, (_, _, refl, refl, refl), refl)

pub returns-clause-empty : goal.returns-clause-empty
returns-clause-empty c = (refl, 0, (0, _, refl, (_, _, refl, refl, refl)))

pub returns-clause-called : goal.returns-clause-called
returns-clause-called c = (0, 0, 1, refl, start)
