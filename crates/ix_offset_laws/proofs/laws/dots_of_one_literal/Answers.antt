use Rattle.std.proofs.Common.{arith, codes}
use Rattle.ix_offset_laws.proofs.SmallDots.{front_dot, behind_a, at_most_1, at_most_0, no_dot}
use Rattle.ix_offset_laws.proofs.laws.dots_of_one_literal.Goals as goal

pub returns-clause-before : goal.returns-clause-before
returns-clause-before c = front_dot (codes "ab")

pub returns-clause-behind : goal.returns-clause-behind
returns-clause-behind c = behind_a

pub returns-clause-not_behind_all : goal.returns-clause-not_behind_all
returns-clause-not_behind_all c = λ h. omega (arith, at_most_1 2 h)

pub returns-clause-not_without_match : goal.returns-clause-not_without_match
returns-clause-not_without_match c = λ h. omega (arith, at_most_0 1 h)

pub returns-clause-not_without_rules : goal.returns-clause-not_without_rules
returns-clause-not_without_rules c = no_dot (codes "a") 0
