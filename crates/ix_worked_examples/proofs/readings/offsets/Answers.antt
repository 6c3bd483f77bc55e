use Rattle.std.proofs.Common.{refl, arith, codes}
use mathlib.Core.Logic.{inl}
use Rattle.ix_examples.specs.SmallGrammars.{only_a}
use Rattle.ix_examples.specs.SmallReadings.{only_ab}
use Rattle.ix_worked_examples.proofs.SmallReadings.{none_of_ab, one_of_ab, two_of_lines, one_of_twice, item_again}
use Rattle.ix_answer_laws.proofs.Offsets.{offset_is_one}
use Rattle.ix_worked_examples.proofs.readings.offsets.Goals as goal

pub returns-clause-no_match : goal.returns-clause-no_match
returns-clause-no_match c = none_of_ab

pub returns-clause-not_within : goal.returns-clause-not_within
returns-clause-not_within c = λ h. omega (arith, offset_is_one only_ab (codes "ac") 0 1 none_of_ab h)

pub returns-clause-shorter : goal.returns-clause-shorter
returns-clause-shorter c = one_of_ab

pub returns-clause-not_nothing : goal.returns-clause-not_nothing
returns-clause-not_nothing c = λ h. omega (arith, offset_is_one only_a (codes "ab") 1 0 one_of_ab h)

pub returns-clause-not_all : goal.returns-clause-not_all
returns-clause-not_all c = λ h. omega (arith, offset_is_one only_a (codes "ab") 1 2 one_of_ab h)

pub returns-clause-by_lines : goal.returns-clause-by_lines
returns-clause-by_lines c = two_of_lines

pub returns-clause-separator_missing : goal.returns-clause-separator_missing
returns-clause-separator_missing c = one_of_twice

pub returns-clause-of_derived : goal.returns-clause-of_derived
returns-clause-of_derived c = (_, 3, item_again, inl (_, _, refl, (refl, omega arith, refl)))
