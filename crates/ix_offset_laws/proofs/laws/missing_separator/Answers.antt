use Rattle.std.proofs.Common.{arith, codes}
use Rattle.ix_offset_laws.specs.Examples.{commas_plan}
use Rattle.ix_offset_laws.proofs.FurthestOffset.{furthest_is_one}
use Rattle.ix_offset_laws.proofs.SmallLists.{planned_commas, plan_of_commas, furthest_of_aa, offset_of_aa}
use Rattle.ix_offset_laws.proofs.laws.missing_separator.Goals as goal

pub returns-clause-planned : goal.returns-clause-planned
returns-clause-planned c = planned_commas

pub returns-clause-plan : goal.returns-clause-plan
returns-clause-plan c = plan_of_commas

pub returns-clause-furthest : goal.returns-clause-furthest
returns-clause-furthest c = furthest_of_aa

pub returns-clause-not_both : goal.returns-clause-not_both
returns-clause-not_both c = λ h. omega (arith, furthest_is_one (commas_plan (codes "aa")) 1 2 furthest_of_aa h)

pub returns-clause-offset : goal.returns-clause-offset
returns-clause-offset c = offset_of_aa
