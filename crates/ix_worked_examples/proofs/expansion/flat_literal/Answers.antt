use Rattle.std.proofs.Common.{refl, None, true, [], ◌∷◌, arith}
use Rattle.ix_examples.specs.SmallRules.{shown}
use Rattle.ix_worked_examples.proofs.expansion.flat_literal.Goals as goal

pub returns-clause-tree : goal.returns-clause-tree
returns-clause-tree c = (None, refl, shown 0 ∷ [], (_, _, refl, refl, refl), refl, (0, _, refl, refl, (refl, refl, (0, true, _, refl, refl, (refl, omega arith, refl)))))
