use Rattle.std.proofs.Common.{◌≤◌, [], ◌∷◌, ◌++◌, codes, refl, arith}
use Rattle.ix_model.specs.Closure.Useful.{sub_at}
use Rattle.ix_examples.specs.SmallPlans.{cycle, literal, nothing, only_a}
use Rattle.ix_cluster.specs.declared.fact.Fact.TheVariants as fact
use Rattle.ix_closure.specs.declared.owed.Owed.TheVariants.{Claim, Edge, End, Arrive}
use Rattle.ix_closure.specs.Due.{claim, passed, waits, ends}
use Rattle.ix_closure.specs.Examples.{a_called, alone, cycle_claimed, nothing_begun, nothing_claimed}
use Rattle.ix_closure.proofs.Small.SmallAlternatives.{alternatives_tidy}
use Rattle.ix_closure.proofs.Small.SmallStates.{a_claimed_tidy, balanced_more, cycle_claimed_tidy, nothing_begun_tidy, nothing_claimed_tidy}
use Rattle.ix_closure.proofs.Small.SmallSteps.{a_stands, next_0_a, next_0_c, nothing_last}
use Rattle.ix_closure.proofs.laws.tidy_state_owes_once.Goals as goal

pub returns-clause-claim_twice : goal.returns-clause-claim_twice
returns-clause-claim_twice c = (balanced_more (nothing []) nothing_begun nothing_begun_tidy.balanced (Claim 0 0 0) (claim 0 0 0 (1, omega arith, refl)), λ h. omega (arith, (h.claims 0 0 0 (0, omega arith, refl)).0))

pub returns-clause-claim_recorded : goal.returns-clause-claim_recorded
returns-clause-claim_recorded c = (balanced_more (nothing []) nothing_claimed nothing_claimed_tidy.balanced (Claim 0 0 0) (claim 0 0 0 (1, omega arith, refl)), λ h. (h.claims 0 0 0 (1, omega arith, refl)).1 (3, omega arith, refl))

pub returns-clause-edge_twice : goal.returns-clause-edge_twice
returns-clause-edge_twice c = (balanced_more (cycle []) (cycle_claimed (Claim 2 0 0 ∷ Edge 0 0 0 0 ∷ [])) cycle_claimed_tidy.balanced (Edge 0 0 0 0) (waits 0 0 0 1 0 _ (3, omega arith, refl) next_0_c), λ h. omega (arith, (h.owed_edges 0 0 0 0 (1, omega arith, refl)).0))

pub returns-clause-arrival_twice : goal.returns-clause-arrival_twice
returns-clause-arrival_twice c = (balanced_more (only_a (codes "a")) (alone (a_called ++ fact.Claim 0 0 0 ∷ []) 0 (Arrive (sub_at 1 0 0 1) ∷ [])) a_claimed_tidy.balanced (Arrive (sub_at 1 0 0 1)) (passed 0 0 0 1 1 (literal 0) (2, omega arith, refl) next_0_a a_stands), λ h. omega (arith, (h.arrivals (sub_at 1 0 0 1) (0, omega arith, refl)).0))

pub returns-clause-end_twice : goal.returns-clause-end_twice
returns-clause-end_twice c = (balanced_more (nothing []) nothing_claimed nothing_claimed_tidy.balanced (End 0 0 0) (ends 0 0 0 0 (3, omega arith, refl) nothing_last), λ h. let few : 2 ≤ 1 = h.owed_ends 0 0 0 in omega (arith, few))

pub returns-clause-end_of_two : goal.returns-clause-end_of_two
returns-clause-end_of_two c = alternatives_tidy
