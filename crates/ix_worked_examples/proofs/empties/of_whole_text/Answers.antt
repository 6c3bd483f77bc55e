use Rattle.std.proofs.Common.{refl, arith}
use mathlib.Core.Logic.{inl}
use Rattle.ix_worked_examples.proofs.EmptyTexts.{tree_missing}
use Rattle.ix_worked_examples.proofs.empties.of_whole_text.Goals as goal

pub returns-clause-tree_missing_in_group : goal.returns-clause-tree_missing_in_group
returns-clause-tree_missing_in_group c = tree_missing

pub returns-clause-both_trees : goal.returns-clause-both_trees
returns-clause-both_trees c = (0, _, _, refl, (_, refl, (_, refl, refl)), (refl, (0, _, refl, refl, ((_, _, refl, (_, refl, refl)), _, (_, refl, (_, refl, refl)), refl, (1, _, (0, _, refl, refl, (refl, refl, inl (_, _, refl, (refl, omega arith, refl)))), refl, (refl, refl, inl (_, _, refl, (refl, omega arith, refl))))))))
