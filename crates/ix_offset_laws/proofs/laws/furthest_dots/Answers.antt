use Rattle.std.proofs.Common.{arith, codes}
use Rattle.ix_examples.specs.SmallPlans.{only_a}
use Rattle.ix_offset_laws.specs.Examples.{no_rules}
use Rattle.ix_offset_laws.proofs.FurthestOffset.{furthest_is_one}
use Rattle.ix_offset_laws.proofs.SmallDots.{furthest_of_ab, furthest_of_b, furthest_of_no_rules}
use Rattle.ix_offset_laws.proofs.laws.furthest_dots.Goals as goal

pub returns-clause-shorter : goal.returns-clause-shorter
returns-clause-shorter c = furthest_of_ab

pub returns-clause-not_nothing : goal.returns-clause-not_nothing
returns-clause-not_nothing c = λ h. omega (arith, furthest_is_one (only_a (codes "ab")) 1 0 furthest_of_ab h)

pub returns-clause-no_match : goal.returns-clause-no_match
returns-clause-no_match c = furthest_of_b

pub returns-clause-not_unread : goal.returns-clause-not_unread
returns-clause-not_unread c = λ h. omega (arith, furthest_is_one (only_a (codes "b")) 0 1 furthest_of_b h)

pub returns-clause-no_rule : goal.returns-clause-no_rule
returns-clause-no_rule c = furthest_of_no_rules (codes "a")

pub returns-clause-not_of_no_rule : goal.returns-clause-not_of_no_rule
returns-clause-not_of_no_rule c = λ h. omega (arith, furthest_is_one (no_rules (codes "a")) 0 1 (furthest_of_no_rules (codes "a")) h)
