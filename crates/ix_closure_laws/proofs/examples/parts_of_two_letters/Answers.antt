use Rattle.std.proofs.Common.{refl, arith}
use Rattle.ix_model.specs.Closure.Useful.{sub_at}
use Rattle.ix_closure_laws.proofs.SmallParts.{part_is, are_three, lacks_last}
use Rattle.ix_closure_laws.proofs.examples.parts_of_two_letters.Goals as goal

pub returns-clause-all : goal.returns-clause-all
returns-clause-all c = are_three

pub returns-clause-not_without_one : goal.returns-clause-not_without_one
returns-clause-not_without_one c = lacks_last

pub returns-clause-not_with_another : goal.returns-clause-not_with_another
returns-clause-not_with_another c = λ h. omega (arith, part_is 1 0 0 0 ((h (sub_at 1 0 0 0)).0 (3, omega arith, refl)))

pub returns-clause-not_by_slot_and_left : goal.returns-clause-not_by_slot_and_left
returns-clause-not_by_slot_and_left c = λ h. omega (arith, part_is 0 2 0 1 ((h (sub_at 0 2 0 1)).0 (1, omega arith, refl)))

pub returns-clause-not_by_slot_and_pivot : goal.returns-clause-not_by_slot_and_pivot
returns-clause-not_by_slot_and_pivot c = λ h. omega (arith, part_is 0 0 2 1 ((h (sub_at 0 0 2 1)).0 (1, omega arith, refl)))

pub returns-clause-not_by_slot_and_right : goal.returns-clause-not_by_slot_and_right
returns-clause-not_by_slot_and_right c = λ h. omega (arith, part_is 1 0 0 2 ((h (sub_at 1 0 0 2)).0 (1, omega arith, refl)))

pub returns-clause-not_by_left_and_pivot : goal.returns-clause-not_by_left_and_pivot
returns-clause-not_by_left_and_pivot c = λ h. omega (arith, part_is 3 1 0 2 ((h (sub_at 3 1 0 2)).0 (2, omega arith, refl)))

pub returns-clause-not_by_left_and_right : goal.returns-clause-not_by_left_and_right
returns-clause-not_by_left_and_right c = λ h. omega (arith, part_is 2 1 0 0 ((h (sub_at 2 1 0 0)).0 (1, omega arith, refl)))

pub returns-clause-not_by_pivot_and_right : goal.returns-clause-not_by_pivot_and_right
returns-clause-not_by_pivot_and_right c = λ h. omega (arith, part_is 2 0 1 0 ((h (sub_at 2 0 1 0)).0 (1, omega arith, refl)))
