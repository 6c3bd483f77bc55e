-- The closure has few descriptors: their slots and positions are those of the plan.
use Rattle.std.proofs.Common.{◌≡◌, ℕ, ◌+◌, ◌*◌, ◌<◌, ◌≤◌, true, List, length, map, count_by, Contains, subst, arith}
use Rattle.std.specs.List.{IsDistinct, flat_map, range_with_len}
use Rattle.std.proofs.lemmas.List.{length-map}
use Rattle.std.proofs.lemmas.List.FromFn.{length-range_with_len}
use Rattle.std.proofs.lemmas.List.Sums.{count_by-le-length}
use Rattle.ix_model.specs.Expansion.Parts.{Parts}
use Rattle.ix_model.specs.Expansion.Planned.{IsPlanned}
use Rattle.ix_closure_laws.proofs.ClosedWithin.{desc_within}
use Rattle.ix_cluster.specs.declared.fact.Fact.{Fact}
use Rattle.ix_cluster.specs.declared.fact.Fact.TheVariants.{Desc}
use Rattle.ix_cluster.specs.Banks.{is_descriptor}
use Rattle.ix_cluster.specs.ClosedFacts.{IsInClosed}
use Rattle.ix_cluster.specs.Facts.{same_fact}
use Rattle.ix_closure.proofs.Lists.ListCounts.{length_flat}
use Rattle.ix_closure.proofs.Lists.ListMembers.{map_has, flat_has}
use Rattle.ix_closure.proofs.Lists.Ranges.{range_has}
use Rattle.ix_closure.proofs.Lists.Sublists.{fewer}

-- a list of at most m facts for each number below n
length_each : (f : ℕ → List Fact) (m n : ℕ) → ((k : ℕ) → length (f k) ≤ m) → length (flat_map f (range_with_len 0 n)) ≤ n * m
length_each f m n each =
    subst (λ (a : ℕ). length (flat_map f (range_with_len 0 n)) ≤ a * m) (length-range_with_len 0 n)
    (length_flat f m (range_with_len 0 n) (λ k _. each k))

-- the descriptors of a slot and a left end with a position below n, those of a slot with both ends below n, and those of
-- the slots below a number
module _ (n : ℕ) where
  at_left : ℕ → ℕ → List Fact
  at_left s l = map (Desc s l) (range_with_len 0 n)

  at_slot : ℕ → List Fact
  at_slot s = flat_map (at_left s) (range_with_len 0 n)

  at_slots : ℕ → List Fact
  at_slots slots = flat_map at_slot (range_with_len 0 slots)

  at_slots_few : (slots : ℕ) → length (at_slots slots) ≤ slots * (n * n)
  unfolding at_left at_slot at_slots
  at_slots_few slots = length_each at_slot (n * n) slots (λ s. length_each (at_left s) n n (λ l. omega (arith, length-map (range_with_len 0 n) (Desc s l), length-range_with_len 0 n)))

  at_slots_have : (slots s l p : ℕ) → s < slots → l < n → p < n → Contains (at_slots slots) (Desc s l p)
  unfolding at_left at_slot at_slots
  at_slots_have slots s l p h k o =
      flat_has at_slot (range_with_len 0 slots) s (Desc s l p) (range_has slots s h)
      (flat_has (at_left s) (range_with_len 0 n) l (Desc s l p) (range_has n l k) (map_has (Desc s l) (range_with_len 0 n) p (range_has n p o)))

-- facts of the closure, each once, have at most so many descriptors
pub few_descriptors : (plan : Parts) → IsPlanned plan → (facts : List Fact) → ((f : Fact) → Contains facts f → IsInClosed plan f) → IsDistinct same_fact facts → count_by is_descriptor facts ≤ length plan.slots * ((length plan.text + 1) * (length plan.text + 1))
few_descriptors plan planned facts closed once =
    omega (
      arith,
      fewer is_descriptor facts all once there,
      count_by-le-length is_descriptor all,
      at_slots_few (length plan.text + 1) (length plan.slots),
    )
  where
    all : List Fact
    all = at_slots (length plan.text + 1) (length plan.slots)

    there : (f : Fact) → Contains facts f → is_descriptor f ≡ true → Contains all f
    there (Desc s l p) h e =
        let w = desc_within plan planned s l p (closed (Desc s l p) h) in
        at_slots_have (length plan.text + 1) (length plan.slots) s l p w.0 (omega (arith, w.1, w.2)) (omega (arith, w.2))
    there f h e = absurd (cc e)
