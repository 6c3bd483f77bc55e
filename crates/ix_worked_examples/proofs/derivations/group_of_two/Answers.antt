use Rattle.std.proofs.Common.{refl, arith}
use mathlib.Core.Logic.{inl}
use Rattle.ix_examples.proofs.SmallTexts.{not_by_a}
use Rattle.ix_worked_examples.proofs.derivations.group_of_two.Goals as goal

pub returns-clause-tree : goal.returns-clause-tree
returns-clause-tree c = (0, _, _, refl, (_, refl, (_, refl, refl)), (refl, (0, _, refl, refl, (_, (_, refl, (_, refl, refl)), refl, (0, _, refl, refl, (refl, refl, inl (_, _, refl, (refl, omega arith, refl))))))))

pub returns-clause-other : goal.returns-clause-other
returns-clause-other c = λ d. not_by_a d
