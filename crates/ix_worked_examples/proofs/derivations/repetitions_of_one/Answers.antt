use Rattle.std.proofs.Common.{refl, None, arith}
use mathlib.Core.Logic.{inl, inr}
use Rattle.ix_worked_examples.proofs.derivations.repetitions_of_one.Goals as goal

pub returns-clause-star : goal.returns-clause-star
returns-clause-star c = (0, _, _, refl, (_, refl, (_, refl, refl)), (refl, (0, _, refl, refl, (_, None, refl, refl))))

pub returns-clause-items : goal.returns-clause-items
returns-clause-items c = (0, _, _, refl, (_, refl, (_, refl, refl)), (refl, (0, _, refl, refl, (_, _, inr refl, (refl, 1, (refl, refl, inl (_, _, refl, (refl, omega arith, refl))), (refl, refl, inl (_, _, refl, (refl, omega arith, refl))))))))

pub returns-clause-plus_items : goal.returns-clause-plus_items
returns-clause-plus_items c = (0, _, _, refl, (_, refl, (_, refl, refl)), (refl, (0, _, refl, refl, (_, _, inl refl, (refl, 1, (refl, refl, inl (_, _, refl, (refl, omega arith, refl))), (refl, refl, inl (_, _, refl, (refl, omega arith, refl))))))))
