-- The run of `S: "a"; "a".` on `a` to the state in which both alternatives are claimed behind the letter.
use Rattle.std.proofs.Common.{true, List, [], ◌∷◌, ◌++◌, codes, refl, arith}
use Rattle.ix_model.specs.Closure.Useful.{sub_at}
use Rattle.ix_model.specs.Expansion.FlatDerives.{IsTerminal}
use Rattle.ix_examples.specs.SmallPlans.{literal, two_alternatives}
use Rattle.ix_examples.proofs.SmallPlans.{planned_alternatives}
use Rattle.ix_cluster.specs.declared.fact.Fact.{Fact}
use Rattle.ix_cluster.specs.declared.fact.Fact.TheVariants as fact
use Rattle.ix_closure.specs.declared.owed.Owed.TheVariants.{Claim, End, Arrive}
use Rattle.ix_closure.specs.Examples.{alone, alternatives_claimed}
use Rattle.ix_closure.specs.Follows.{FollowsDesc, passes, ends}
use Rattle.ix_closure.specs.Runs.{Run, rests}
use Rattle.ix_closure.specs.Seen.{State}
use Rattle.ix_closure.specs.Tidy.{IsTidy}
use Rattle.ix_closure.proofs.Small.SmallEvents.{first_goes_on}
use Rattle.ix_closure.proofs.Small.SmallStates.{opening_order}

stands : IsTerminal (two_alternatives (codes "a")) (literal 0) 0 1
stands = (0, true, _, refl, refl, (refl, omega arith, refl))

first_passes : FollowsDesc (two_alternatives (codes "a")) 0 0 0 (Arrive (sub_at 1 0 0 1) ∷ [])
first_passes = passes (literal 0) 1 1 (0, 0, 0, _, refl, refl, (_, _, refl, refl, refl), refl) stands

second_passes : FollowsDesc (two_alternatives (codes "a")) 2 0 0 (Arrive (sub_at 3 0 0 1) ∷ [])
second_passes = passes (literal 0) 3 1 (0, 1, 0, _, refl, refl, (_, _, refl, refl, refl), refl) stands

first_ends : FollowsDesc (two_alternatives (codes "a")) 1 0 1 (End 0 0 1 ∷ [])
first_ends = ends 0 (0, _, refl, (_, _, refl, refl, refl))

second_ends : FollowsDesc (two_alternatives (codes "a")) 3 0 1 (End 0 0 1 ∷ [])
second_ends = ends 0 (1, _, refl, (_, _, refl, refl, refl))

-- ---- the logs before each step

abbrev begun : List Fact
begun = fact.Called 0 0 ∷ fact.Desc 0 0 0 ∷ fact.Desc 2 0 0 ∷ []

abbrev one_claimed : List Fact
one_claimed = begun ++ fact.Claim 0 0 0 ∷ []

abbrev two_claimed : List Fact
two_claimed = one_claimed ++ fact.Claim 2 0 0 ∷ []

abbrev one_passed : List Fact
one_passed = two_claimed ++ fact.Part (sub_at 1 0 0 1) ∷ fact.Desc 1 0 1 ∷ []

abbrev two_passed : List Fact
two_passed = one_passed ++ fact.Part (sub_at 3 0 0 1) ∷ fact.Desc 3 0 1 ∷ []

abbrev one_behind : List Fact
one_behind = two_passed ++ fact.Claim 1 0 1 ∷ []

-- ---- the steps

abbrev start : State
start = alone begun 0 (Claim 0 0 0 ∷ Claim 2 0 0 ∷ [])

first_is_claimed : Run (two_alternatives (codes "a")) start (0 ∷ []) (alone one_claimed 0 (Claim 2 0 0 ∷ Arrive (sub_at 1 0 0 1) ∷ []))
first_is_claimed = first_goes_on (two_alternatives (codes "a")) start [] begun 0 (Claim 0 0 0) (Claim 2 0 0 ∷ []) (Arrive (sub_at 1 0 0 1) ∷ []) rests refl first_passes (omega arith)

second_is_claimed : Run (two_alternatives (codes "a")) start (0 ∷ 0 ∷ []) (alone two_claimed 0 (Arrive (sub_at 1 0 0 1) ∷ Arrive (sub_at 3 0 0 1) ∷ []))
second_is_claimed = first_goes_on (two_alternatives (codes "a")) start (0 ∷ []) one_claimed 0 (Claim 2 0 0) (Arrive (sub_at 1 0 0 1) ∷ []) (Arrive (sub_at 3 0 0 1) ∷ []) first_is_claimed refl second_passes (omega arith)

first_arrives : Run (two_alternatives (codes "a")) start (0 ∷ 0 ∷ 0 ∷ []) (alone one_passed 0 (Arrive (sub_at 3 0 0 1) ∷ Claim 1 0 1 ∷ []))
first_arrives = first_goes_on (two_alternatives (codes "a")) start (0 ∷ 0 ∷ []) two_claimed 0 (Arrive (sub_at 1 0 0 1)) (Arrive (sub_at 3 0 0 1) ∷ []) (Claim 1 0 1 ∷ []) second_is_claimed refl refl (omega arith)

second_arrives : Run (two_alternatives (codes "a")) start (0 ∷ 0 ∷ 0 ∷ 0 ∷ []) (alone two_passed 0 (Claim 1 0 1 ∷ Claim 3 0 1 ∷ []))
second_arrives = first_goes_on (two_alternatives (codes "a")) start (0 ∷ 0 ∷ 0 ∷ []) one_passed 0 (Arrive (sub_at 3 0 0 1)) (Claim 1 0 1 ∷ []) (Claim 3 0 1 ∷ []) first_arrives refl refl (omega arith)

first_is_behind : Run (two_alternatives (codes "a")) start (0 ∷ 0 ∷ 0 ∷ 0 ∷ 0 ∷ []) (alone one_behind 0 (Claim 3 0 1 ∷ End 0 0 1 ∷ []))
first_is_behind = first_goes_on (two_alternatives (codes "a")) start (0 ∷ 0 ∷ 0 ∷ 0 ∷ []) two_passed 0 (Claim 1 0 1) (Claim 3 0 1 ∷ []) (End 0 0 1 ∷ []) second_arrives refl first_ends (omega arith)

second_is_behind : Run (two_alternatives (codes "a")) start (0 ∷ 0 ∷ 0 ∷ 0 ∷ 0 ∷ 0 ∷ []) alternatives_claimed
second_is_behind = first_goes_on (two_alternatives (codes "a")) start (0 ∷ 0 ∷ 0 ∷ 0 ∷ 0 ∷ []) one_behind 0 (Claim 3 0 1) (End 0 0 1 ∷ []) (End 0 0 1 ∷ []) first_is_behind refl second_ends (omega arith)

pub alternatives_tidy : IsTidy (two_alternatives (codes "a")) alternatives_claimed
alternatives_tidy = (opening_order (two_alternatives (codes "a")) planned_alternatives (omega arith)).tidy (0 ∷ 0 ∷ 0 ∷ 0 ∷ 0 ∷ 0 ∷ []) alternatives_claimed second_is_behind
