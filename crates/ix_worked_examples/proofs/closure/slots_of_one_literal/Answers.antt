use Rattle.std.proofs.Common.{refl}
use Rattle.ix_worked_examples.proofs.closure.slots_of_one_literal.Goals as goal

pub returns-clause-first : goal.returns-clause-first
returns-clause-first c = (0, _, refl, (_, _, refl, refl, refl))

pub returns-clause-last : goal.returns-clause-last
returns-clause-last c = (0, _, refl, (_, _, refl, refl, refl))

pub returns-clause-next : goal.returns-clause-next
returns-clause-next c = (0, 0, 0, _, refl, refl, (_, _, refl, refl, refl), refl)
