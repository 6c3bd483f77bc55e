use Rattle.std.proofs.Common.{refl, codes, arith}
use Rattle.ix_examples.proofs.SmallTexts.{only_empty}
use Rattle.ix_worked_examples.proofs.derivations.empty_alternative.Goals as goal

pub returns-clause-tree : goal.returns-clause-tree
returns-clause-tree c = (0, _, _, refl, (_, refl, (_, refl, refl)), (refl, refl))

pub returns-clause-none : goal.returns-clause-none
returns-clause-none c = λ d h. absurd (omega (arith, only_empty (codes "a") d h))
