use Rattle.std.proofs.Common.{refl, arith}
use mathlib.Core.Logic.{inl}
use Rattle.ix_worked_examples.proofs.derivations.option_of_one.Goals as goal

pub returns-clause-there : goal.returns-clause-there
returns-clause-there c = (0, _, _, refl, (_, refl, (_, refl, refl)), (refl, (0, _, refl, refl, (_, refl, (refl, refl, inl (_, _, refl, (refl, omega arith, refl)))))))

pub returns-clause-absent : goal.returns-clause-absent
returns-clause-absent c = (0, _, _, refl, (_, refl, (_, refl, refl)), (refl, (0, _, refl, refl, (_, refl, refl))))
