use Rattle.std.proofs.Common.{refl}
use Rattle.ix_worked_examples.proofs.places.counted_from_zero.Goals as goal

pub returns-clause-named : goal.returns-clause-named
returns-clause-named c = (_, refl, refl)

pub returns-clause-terms : goal.returns-clause-terms
returns-clause-terms c = (_, refl, (_, refl, refl))
