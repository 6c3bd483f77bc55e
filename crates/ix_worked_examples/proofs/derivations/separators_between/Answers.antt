use Rattle.std.proofs.Common.{refl, arith}
use mathlib.Core.Logic.{inl}
use Rattle.ix_worked_examples.proofs.derivations.separators_between.Goals as goal

pub returns-clause-tree : goal.returns-clause-tree
returns-clause-tree c = (0, _, _, refl, (_, refl, (_, refl, refl)), (refl, (0, _, refl, refl, (_, _, inl refl, (_, refl, 1, 2, (refl, refl, inl (_, _, refl, (refl, omega arith, refl))), (refl, refl, inl (_, _, refl, (refl, omega arith, refl))), (refl, refl, inl (_, _, refl, (refl, omega arith, refl))))))))
