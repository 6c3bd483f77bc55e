use Rattle.std.proofs.Common.{refl}
use Rattle.ix_worked_examples.proofs.refusals.near_xmlns.Goals as goal

pub returns-clause-at_top : goal.returns-clause-at_top
returns-clause-at_top c = (0, _, refl, (0, refl))

pub returns-clause-within : goal.returns-clause-within
returns-clause-within c = (2, _, refl, (0, refl))
