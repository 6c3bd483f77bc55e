-- The set of the useful subtrees of S: S, "a"; . on one `a`, and what is not one.
use Rattle.std.proofs.Common.{◌≡◌, ◌≢◌, refl, ap, sym, ◌↔◌, ◌<◌, ℕ, zero, suc, [], ◌∷◌, None, arith}
use mathlib.Core.Logic.{inl}
use Rattle.std.specs.List.{Contains}
use Rattle.ix_model.specs.declared.sub.Sub.{Sub}
use Rattle.ix_model.specs.Expansion.Slots.{info_at, sym_after}
use Rattle.ix_model.specs.Closure.Useful.{sub_at, Useful}
use Rattle.ix_subtrees.specs.declared.entry.Entry.{Entry}
use Rattle.ix_subtrees.specs.Entries.{entry_for, AreInOrder}
use Rattle.ix_subtrees.specs.Sets.{sub_of_entry, IsLastOf}
use Rattle.ix_subtrees.specs.Examples.{left_recursive_subs, left_recursive_useful, left_recursive_set}
use Rattle.ix_examples.specs.TestPlans.{left_recursive}
use Rattle.ix_subtrees.specs.Laws.{ThreeAreUseful, ClosureIsNotUseful, WaysAreListed, UselessWayIsNotListed, LastSlotEnds, InnerSlotDoesNotEnd, AltsAreListed, EmptyAltIsNotLeftOut, ListsAreTheSet, WaysAreNotTheSet}
use Rattle.ix_subtrees.proofs.Found.{made_same}
use Rattle.ix_subtrees.proofs.LastSlots.{last_of_reads}
use Rattle.ix_subtrees.proofs.LeftRecursionUses.{useful_left}
use Rattle.ix_subtrees.proofs.Lists.{each_of}

-- ---- the useful subtrees

useful_is : (sub : Sub) → Useful (left_recursive 1) sub ↔ (Contains (left_recursive_subs 1) sub × (sub ≢ sub_at 1 0 0 1))
useful_is sub = useful_left 1 (omega arith) sub

useful_listed : (sub : Sub) → Useful (left_recursive 1) sub → Contains left_recursive_useful sub
useful_listed sub u = let c = (useful_is sub).0 u in each_of Listed (left_recursive_subs 1) sub (λ o. (0, omega arith, refl), (λ o. (1, omega arith, refl), (λ o. (2, omega arith, refl), (λ o. absurd (o refl), tt)))) c.0 c.1
  where
    -- listed, unless it is the S up to the end of the text
    Listed : Sub → Type 0
    Listed x = x ≢ sub_at 1 0 0 1 → Contains left_recursive_useful x

useful_empty : Useful (left_recursive 1) (sub_at 3 0 0 0)
useful_empty = (useful_is (sub_at 3 0 0 0)).1 ((0, omega arith, refl), λ e. absurd (omega (arith, ap (λ (sub : Sub). sub.slot) e)))

useful_up_to : Useful (left_recursive 1) (sub_at 1 0 0 0)
useful_up_to = (useful_is (sub_at 1 0 0 0)).1 ((1, omega arith, refl), λ e. absurd (omega (arith, ap (λ (sub : Sub). sub.right) e)))

useful_letter : Useful (left_recursive 1) (sub_at 2 0 0 1)
useful_letter = (useful_is (sub_at 2 0 0 1)).1 ((2, omega arith, refl), λ e. absurd (omega (arith, ap (λ (sub : Sub). sub.slot) e)))

useless : Useful (left_recursive 1) (sub_at 1 0 0 1) → ⊥
useless u = ((useful_is (sub_at 1 0 0 1)).0 u).1 refl

pub three_are_useful : ThreeAreUseful
three_are_useful sub = (each_of (Useful (left_recursive 1)) left_recursive_useful sub (useful_empty, (useful_up_to, (useful_letter, tt))), useful_listed sub)

pub closure_is_not_useful : ClosureIsNotUseful
closure_is_not_useful are = useless ((are (sub_at 1 0 0 1)).0 (3, omega arith, refl))

-- ---- their pivots

pub ways_are_listed : WaysAreListed
ways_are_listed entry = (
  each_of (λ (e : Entry). Useful (left_recursive 1) (sub_of_entry e)) left_recursive_set.ways entry (useful_up_to, (useful_letter, (useful_empty, tt))),
  λ u. each_of (λ (x : Sub). Contains left_recursive_set.ways (entry_for x.slot x.left x.right x.pivot)) left_recursive_useful (sub_of_entry entry) ((2, omega arith, refl), ((0, omega arith, refl), ((1, omega arith, refl), tt))) (useful_listed (sub_of_entry entry) u),
)

pub useless_way_is_not_listed : UselessWayIsNotListed
useless_way_is_not_listed are = useless ((are (entry_for 1 0 1 0)).0 (0, omega arith, refl))

-- ---- the alternatives that they end

pub last_slot_ends : LastSlotEnds
last_slot_ends = (_, refl, (_, _, refl, refl, refl))

empty_slot_ends : IsLastOf (left_recursive 1) 3 0 1
empty_slot_ends = (_, refl, (_, _, refl, refl, refl))

-- behind slot 1 there is a symbol
pub inner_slot_does_not_end : InnerSlotDoesNotEnd
inner_slot_does_not_end h = cc (last_of_reads (left_recursive 1) 1 0 0 h).3

pub alts_are_listed : AltsAreListed
alts_are_listed entry = (
  each_of Ended left_recursive_set.alts entry ((3, 0, empty_slot_ends, useful_empty), ((2, 0, last_slot_ends, useful_letter), tt)),
  λ h. each_of Listed left_recursive_useful (sub_at h.0 entry.span.left h.1 entry.span.right) (
    λ r. (0, omega arith, sym (made_same _ 0 0 0 1 (sym r.1) refl refl (sym r.2))),
    (λ r. absurd (cc r.3), (λ r. (1, omega arith, sym (made_same _ 0 0 1 0 (sym r.1) refl refl (sym r.2))), tt)),
  ) (useful_listed (sub_at h.0 entry.span.left h.1 entry.span.right) h.3) (last_of_reads (left_recursive 1) h.0 entry.span.number entry.choice h.2),
)
  where
    Ended : Entry → Type 0
    Ended e = (s : ℕ) × (k : ℕ) × IsLastOf (left_recursive 1) s e.span.number e.choice × Useful (left_recursive 1) (sub_at s e.span.left k e.span.right)

    -- what the slot tells of the alternative is listed
    Listed : Sub → Type 0
    Listed x =
        (x.slot < 4) × ((info_at (left_recursive 1) x.slot).head ≡ entry.span.number) × ((info_at (left_recursive 1) x.slot).alt ≡ entry.choice) × (sym_after (left_recursive 1) x.slot ≡ None) →
        Contains left_recursive_set.alts (entry_for entry.span.number x.left x.right entry.choice)

pub empty_alt_is_not_left_out : EmptyAltIsNotLeftOut
empty_alt_is_not_left_out are = each_of (λ (e : Entry). e.span.right ≢ 0) (entry_for 0 0 1 0 ∷ []) (entry_for 0 0 0 1) (λ e. absurd (omega (arith, e)), tt) ((are (entry_for 0 0 0 1)).1 (3, 0, empty_slot_ends, useful_empty)) refl

-- ---- the set

in_order : AreInOrder left_recursive_set.ways
in_order i zero h k = absurd (omega (arith, h))
in_order zero (suc zero) h k = inl (inl (omega arith))
in_order (suc i) (suc zero) h k = absurd (omega (arith, h))
in_order zero (suc (suc zero)) h k = inl (inl (omega arith))
in_order (suc zero) (suc (suc zero)) h k = inl (inl (omega arith))
in_order (suc (suc i)) (suc (suc zero)) h k = absurd (omega (arith, h))
in_order i (suc (suc (suc j))) h k = absurd (omega (arith, k))

pub lists_are_the_set : ListsAreTheSet
lists_are_the_set = record { ways = ways_are_listed; order = in_order; alts = alts_are_listed }

pub ways_are_not_the_set : WaysAreNotTheSet
ways_are_not_the_set set = let c = (set.alts (entry_for 0 0 0 1)).1 (3, 0, empty_slot_ends, useful_empty) in absurd (omega (arith, c.1))
