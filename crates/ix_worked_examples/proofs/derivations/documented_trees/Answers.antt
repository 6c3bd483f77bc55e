use Rattle.std.proofs.Common.{refl, arith}
use mathlib.Core.Logic.{inl}
use Rattle.ix_worked_examples.proofs.derivations.documented_trees.Goals as goal

pub returns-clause-parts : goal.returns-clause-parts
returns-clause-parts c = (0, _, _, refl, (_, refl, (_, refl, refl)), (refl, (1, _, (0, _, refl, refl, (_, refl, (_, (_, refl, (_, refl, refl)), refl, (0, _, refl, refl, (refl, refl, inl (_, _, refl, (refl, omega arith, refl))))))), refl, (_, _, inl refl, (_, refl, 2, 3, (refl, refl, inl (_, _, refl, (refl, omega arith, refl))), (refl, refl, inl (_, _, refl, (refl, omega arith, refl))), (refl, refl, inl (_, _, refl, (refl, omega arith, refl))))))))

pub returns-clause-hidden : goal.returns-clause-hidden
returns-clause-hidden c = (0, _, _, refl, (_, refl, (_, refl, refl)), (refl, (1, _, (0, _, refl, refl, (refl, refl, inl (_, _, refl, (refl, omega arith, refl)))), refl, ((_, _, refl, (_, refl, refl)), _, (_, refl, (_, refl, refl)), refl, (1, _, refl, refl, ((_, _, refl, (_, refl, refl)), _, (_, refl, (_, refl, refl)), refl, (1, _, refl, refl, ((_, _, refl, (_, refl, refl)), _, (_, refl, (_, refl, refl)), refl, (1, _, refl, refl, (refl, refl, inl (_, _, refl, (refl, omega arith, refl))))))))))))

pub returns-clause-nested : goal.returns-clause-nested
returns-clause-nested c = (0, _, _, refl, (_, refl, (_, refl, refl)), (refl, (0, _, refl, refl, ((_, _, refl, (_, refl, refl)), _, (_, refl, (_, refl, refl)), refl, (3, _, (2, _, (1, _, (0, _, refl, refl, (refl, refl, inl (_, _, refl, (refl, omega arith, refl)))), refl, ((_, _, refl, (_, refl, refl)), _, (_, refl, (_, refl, refl)), refl, (1, _, refl, refl, (refl, refl, inl (_, _, refl, (refl, omega arith, refl)))))), refl, (refl, refl, inl (_, _, refl, (refl, omega arith, refl)))), refl, (refl, (_, refl)))))))

pub returns-clause-marks : goal.returns-clause-marks
returns-clause-marks c = (0, _, _, refl, (_, refl, (_, refl, refl)), (refl, (2, _, (1, _, (0, _, refl, refl, ((_, _, refl, (_, refl, refl)), _, (_, refl, (_, refl, refl)), refl, (0, _, refl, refl, (refl, refl, inl (_, _, refl, (refl, omega arith, refl)))))), refl, ((_, _, refl, (_, refl, refl)), _, (_, refl, (_, refl, refl)), refl, (1, _, refl, refl, (refl, refl, inl (_, _, refl, (refl, omega arith, refl)))))), refl, ((_, _, refl, (_, refl, refl)), _, (_, refl, (_, refl, refl)), refl, (2, _, refl, refl, (refl, refl, inl (_, _, refl, (refl, omega arith, refl))))))))

pub returns-clause-escaped : goal.returns-clause-escaped
returns-clause-escaped c = (0, _, _, refl, (_, refl, (_, refl, refl)), (refl, (1, _, (0, _, (0, _, refl, refl, (refl, (_, refl))), refl, (refl, refl, inl (_, _, refl, (refl, omega arith, refl)))), refl, (refl, (_, refl)))))

pub returns-clause-marked_root : goal.returns-clause-marked_root
returns-clause-marked_root c = λ mark. (1, _, _, refl, (_, refl, (_, refl, refl)), (refl, (0, _, refl, refl, ((_, _, refl, (_, refl, refl)), _, (_, refl, (_, refl, refl)), refl, (0, _, refl, refl, (refl, refl, inl (_, _, refl, (refl, omega arith, refl))))))))
