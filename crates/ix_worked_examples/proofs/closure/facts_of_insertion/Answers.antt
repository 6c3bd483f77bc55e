use Rattle.std.proofs.Common.{refl}
use Rattle.ix_model.specs.Closure.Closed.{start, begun, inserted}
use Rattle.ix_worked_examples.proofs.closure.facts_of_insertion.Goals as goal

pub returns-clause-next : goal.returns-clause-next
returns-clause-next c = (0, 0, 0, _, refl, refl, (_, _, refl, refl, refl), refl)

pub returns-clause-part : goal.returns-clause-part
returns-clause-part c = inserted 0 0 0 1 0 (begun 0 0 0 start (0, _, refl, (_, _, refl, refl, refl))) (0, 0, 0, _, refl, refl, (_, _, refl, refl, refl), refl)
