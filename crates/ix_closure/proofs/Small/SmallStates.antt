-- The small states of the worked examples: they are balanced and tidy, and end in the closure.
use Rattle.std.proofs.Common.{◌≡◌, ℕ, ◌+◌, ◌<◌, zero, suc, [], ◌∷◌, ◌++◌, Some, codes, length, slice_get, subst, refl, inl, inr, arith}
use Rattle.std.proofs.lemmas.List.Elements.{Contains-append_left, Contains-push_cases}
use Rattle.ix_model.specs.Closure.Useful.{sub_at}
use Rattle.ix_model.specs.Expansion.Parts.{Parts}
use Rattle.ix_model.specs.Expansion.Planned.{IsPlanned}
use Rattle.ix_examples.specs.SmallPlans.{cycle, nothing, only_a}
use Rattle.ix_examples.proofs.SmallPlans.{planned_a, planned_b}
use Rattle.ix_cluster.specs.declared.limits.TheConstants.{FACT_LIMIT}
use Rattle.ix_cluster.specs.declared.fact.Fact.TheVariants as fact
use Rattle.ix_cluster.specs.Banks.{opening, opening_bank}
use Rattle.ix_cluster.specs.Firsts.{firsts_of}
use Rattle.ix_cluster.specs.Room.{unclaimed_in}
use Rattle.ix_cluster.specs.Seen.{Bank}
use Rattle.ix_cluster.specs.Sound.{IsSoundBank, AreSound}
use Rattle.ix_cluster.specs.Steps.{after_call}
use Rattle.ix_cluster.proofs.Soundness.{sound-begin}
use Rattle.ix_cluster.proofs.SmallBanks.{cycle_planned}
use Rattle.ix_closure.specs.declared.owed.Owed.{Owed}
use Rattle.ix_closure.specs.declared.owed.Owed.TheVariants.{Claim, Edge, Arrive}
use Rattle.ix_closure.specs.Balance.{IsBalanced}
use Rattle.ix_closure.specs.Closure.{IsClosure}
use Rattle.ix_closure.specs.Due.{FollowsIn}
use Rattle.ix_closure.specs.Examples.{a_called, alone, cycle_begun, cycle_claimed, nothing_begun, nothing_claimed, nothing_closed, nothing_ended}
use Rattle.ix_closure.specs.Follows.{claims_at}
use Rattle.ix_closure.specs.Orders.{EveryOrder}
use Rattle.ix_closure.specs.Runs.{rests, goes_on}
use Rattle.ix_closure.specs.Seen.{State}
use Rattle.ix_closure.specs.Tidy.{IsTidy}
use Rattle.ix_closure.proofs.Closing.EveryOrder.{every_order}
use Rattle.ix_closure.proofs.Small.SmallEvents.{cycle_is_claimed, first_goes_on, nothing_goes_on, nothing_runs}
use Rattle.ix_closure.proofs.Small.SmallSteps.{a_passes, b_stops, nothing_planned}

-- one sound bank
pub one_sound : (plan : Parts) (bank : Bank) → IsSoundBank plan 1 0 bank → AreSound plan (bank ∷ [])
one_sound plan bank sound = record { some = omega arith; few = omega arith; each = each }
  where
    each : (m : ℕ) (b : Bank) → slice_get (bank ∷ []) m ≡ Some b → IsSoundBank plan 1 m b
    each zero b e = let same : bank ≡ b = cc e in subst (IsSoundBank plan 1 0) same sound
    each (suc m) b e = absurd (cc e)

-- the opening, where its one bank is not longer than memory
pub opening_order : (plan : Parts) → IsPlanned plan → length (after_call plan [] 0 0) + unclaimed_in (after_call plan [] 0 0) < FACT_LIMIT → EveryOrder plan (record { banks = opening plan 1; owed = claims_at 0 (firsts_of plan 0) })
opening_order plan planned bounded = every_order plan planned (record { banks = opening plan 1; owed = claims_at 0 (firsts_of plan 0) }) refl refl (one_sound plan (opening_bank plan 1 0) (sound-begin plan 1 0 planned refl bounded))

-- one more step that follows keeps a state balanced, whether it is owed already or not
pub balanced_more : (plan : Parts) (old : State) → IsBalanced plan old → (step : Owed) → FollowsIn plan old.banks step → IsBalanced plan (record { banks = old.banks; owed = old.owed ++ step ∷ [] })
balanced_more plan old balanced step due = record {
  sound = balanced.sound;
  missing = λ o missing. Contains-append_left old.owed (step ∷ []) o (balanced.missing o missing);
  caused = λ o h. elim (Contains-push_cases old.owed step o h) [ inl there ↦ balanced.caused o there | inr same ↦ subst (FollowsIn plan old.banks) same due ];
}

-- ---- S: .

pub nothing_every_order : EveryOrder (nothing []) nothing_begun
nothing_every_order = opening_order (nothing []) nothing_planned (omega arith)

pub nothing_begun_tidy : IsTidy (nothing []) nothing_begun
nothing_begun_tidy = nothing_every_order.tidy [] nothing_begun rests

pub nothing_claimed_tidy : IsTidy (nothing []) nothing_claimed
nothing_claimed_tidy = nothing_every_order.tidy (0 ∷ []) nothing_claimed nothing_goes_on

pub nothing_ended_tidy : IsTidy (nothing []) nothing_ended
nothing_ended_tidy = nothing_every_order.tidy (0 ∷ 0 ∷ []) nothing_ended nothing_runs

pub nothing_closure : IsClosure (nothing []) nothing_closed
nothing_closure = nothing_every_order.ends (0 ∷ 0 ∷ []) nothing_ended nothing_runs refl

-- ---- S: S; "a".

pub cycle_every_order : EveryOrder (cycle []) cycle_begun
cycle_every_order = opening_order (cycle []) cycle_planned (omega arith)

pub cycle_claimed_tidy : IsTidy (cycle []) (cycle_claimed (Claim 2 0 0 ∷ Edge 0 0 0 0 ∷ []))
cycle_claimed_tidy = cycle_every_order.tidy (0 ∷ []) (cycle_claimed (Claim 2 0 0 ∷ Edge 0 0 0 0 ∷ [])) (goes_on [] 0 cycle_begun (cycle_claimed (Claim 2 0 0 ∷ Edge 0 0 0 0 ∷ [])) rests cycle_is_claimed)

-- ---- S: "a".

abbrev a_begun : State
a_begun = alone a_called 0 (Claim 0 0 0 ∷ [])

pub a_claimed_tidy : IsTidy (only_a (codes "a")) (alone (a_called ++ fact.Claim 0 0 0 ∷ []) 0 (Arrive (sub_at 1 0 0 1) ∷ []))
a_claimed_tidy =
    (opening_order (only_a (codes "a")) planned_a (omega arith)).tidy (0 ∷ []) (alone (a_called ++ fact.Claim 0 0 0 ∷ []) 0 (Arrive (sub_at 1 0 0 1) ∷ []))
    (first_goes_on (only_a (codes "a")) a_begun [] a_called 0 (Claim 0 0 0) [] (Arrive (sub_at 1 0 0 1) ∷ []) rests refl a_passes (omega arith))

-- on `b` the letter is not passed
pub b_closure : IsClosure (only_a (codes "b")) (a_called ++ fact.Claim 0 0 0 ∷ [])
b_closure =
    (opening_order (only_a (codes "b")) planned_b (omega arith)).ends (0 ∷ []) (alone (a_called ++ fact.Claim 0 0 0 ∷ []) 0 [])
    (first_goes_on (only_a (codes "b")) a_begun [] a_called 0 (Claim 0 0 0) [] [] rests refl b_stops (omega arith)) refl
