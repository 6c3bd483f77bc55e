use Rattle.std.proofs.Common.{rules, ◌⊎◌, ℕ, [], ◌∷◌, ◌++◌, codes, refl, arith}
use Rattle.ix_model.specs.Closure.Useful.{sub_at}
use Rattle.ix_examples.specs.SmallPlans.{only_a}
use Rattle.ix_model.specs.Expansion.SlotPlaces.{IsFirstSlot}
use Rattle.ix_cluster.specs.declared.fact.Fact.TheVariants as fact
use Rattle.ix_closure.specs.declared.owed.Owed.TheVariants.{Claim, Arrive}
use Rattle.ix_closure.specs.Due.{FollowsIn, IsRecorded}
use Rattle.ix_closure.specs.Examples.{a_called, alone, cycle_called}
use Rattle.ix_closure.specs.Seen.{State}
use Rattle.ix_closure.specs.Tidy.{IsEmptyOfCalled}
use Rattle.ix_closure.proofs.Small.SmallUntidy.{descriptor_balanced, edge_balanced, first_of_half, half_balanced, subtree_balanced}
use Rattle.ix_closure.proofs.laws.tidy_state_has_causes.Goals as goal

edge_unclaimed : IsRecorded (alone (cycle_called ++ fact.Edge 0 0 0 0 ∷ []) 0 []).banks (fact.Claim 0 0 0) → ⊥
edge_unclaimed = search rules

abbrev with_subtree : State
with_subtree = alone (a_called ++ fact.Part (sub_at 1 0 0 1) ∷ fact.Desc 1 0 1 ∷ []) 0 (Claim 0 0 0 ∷ Claim 1 0 1 ∷ [])

subtree_uncaused : IsEmptyOfCalled (only_a (codes "a")) with_subtree (sub_at 1 0 0 1) ⊎ FollowsIn (only_a (codes "a")) with_subtree.banks (Arrive (sub_at 1 0 0 1)) → ⊥
subtree_uncaused = search rules

not_first : (r : ℕ) → ¬ (IsFirstSlot (only_a (codes "a")) 1 r)
not_first = search rules

no_subtree : (k : ℕ) → IsRecorded (alone (a_called ++ fact.Desc 1 0 1 ∷ []) 0 []).banks (fact.Part (sub_at 1 0 k 1)) → ⊥
no_subtree = search rules

half_uncalled : IsRecorded (alone (a_called ++ fact.Desc 3 0 0 ∷ []) 0 []).banks (fact.Called 1 0) → ⊥
half_uncalled = search rules

pub returns-clause-edge : goal.returns-clause-edge
returns-clause-edge c = (edge_balanced, λ h. edge_unclaimed (h.edges 0 0 0 0 (3, omega arith, refl)))

pub returns-clause-subtree : goal.returns-clause-subtree
returns-clause-subtree c = (subtree_balanced, λ h. subtree_uncaused (h.parts (sub_at 1 0 0 1) (2, omega arith, refl)))

pub returns-clause-descriptor : goal.returns-clause-descriptor
returns-clause-descriptor c = (descriptor_balanced, λ h. let part = h.other_descs 1 0 1 (2, omega arith, refl) not_first in no_subtree part.0 part.1)

pub returns-clause-first_slot : goal.returns-clause-first_slot
returns-clause-first_slot c = (half_balanced, λ h. half_uncalled (h.first_descs 3 0 0 1 (2, omega arith, refl) first_of_half))
