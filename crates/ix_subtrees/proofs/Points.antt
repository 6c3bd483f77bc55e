-- Where the elements of one key stand in a list that is sorted by key.
use Rattle.std.proofs.Common.{◌≡◌, refl, ap, sym, ◌∙◌, ◌≤◌, ◌<◌, ℕ, true, false, List, length, arith, get_or, true≢false}
use mathlib.Core.Logic.{inl, inr}
use Rattle.std.specs.declared.cmp.Ordering.{Ordering}
use Rattle.std.specs.declared.cmp.Ordering.TheVariants.{Less, Equal, Greater}
use Rattle.std.specs.Ordering.{is_lt, is_le, ordering_index, ordering_reverse}
use Rattle.std.specs.Cmp.{IsTotalOrder}
use Rattle.std.specs.List.Sorted.{IsPartitionPoint, IsPartitionedBy, IsSortedByKey}
use Rattle.std.proofs.lemmas.Bool.{cases_lt}
use Rattle.std.proofs.lemmas.List.Sorted.{searchable_from_sorted}

-- neither before the other
pub neither : {K : Type 0} {R : K → K → Ordering} → IsTotalOrder R → (a b : K) → is_lt (R a b) ≡ false → is_lt (R b a) ≡ false → R a b ≡ Equal
neither {R = R} o a b p q = go (R a b) (R b a) (o.antisymm a b) p q
  where
    go : (r s : Ordering) → r ≡ ordering_reverse s → is_lt r ≡ false → is_lt s ≡ false → r ≡ Equal
    go Less s e p q = absurd (true≢false p)
    go Equal s e p q = refl
    go Greater Less e p q = absurd (true≢false q)
    go Greater Equal e p q = e
    go Greater Greater e p q = absurd (true≢false (ap is_lt (sym e)))

less_rises : (r s : Ordering) → ordering_index r ≤ ordering_index s → is_lt s ≡ true → is_lt r ≡ true
less_rises Less s h e = refl
less_rises r Equal h e = absurd (true≢false (sym e))
less_rises r Greater h e = absurd (true≢false (sym e))
less_rises Equal Less h e = absurd (omega (arith, h))
less_rises Greater Less h e = absurd (omega (arith, h))

up_to_rises : (r s : Ordering) → ordering_index r ≤ ordering_index s → is_le s ≡ true → is_le r ≡ true
up_to_rises Less s h e = refl
up_to_rises Equal s h e = refl
up_to_rises r Greater h e = absurd (true≢false (sym e))
up_to_rises Greater Less h e = absurd (omega (arith, h))
up_to_rises Greater Equal h e = absurd (omega (arith, h))

equal_by : (r : Ordering) → is_lt r ≡ false → is_le r ≡ true → r ≡ Equal
equal_by Less p q = absurd (true≢false p)
equal_by Equal p q = refl
equal_by Greater p q = absurd (true≢false (sym q))

module _ {X K : Type 0} {R : K → K → Ordering} (o : IsTotalOrder R) (key : X → K) (xs : List X) (c : K) where
  module _ (sorted : IsSortedByKey key R xs) where
    pub parted_before : IsPartitionedBy (λ x. is_lt (R (key x) c)) xs
    parted_before i j d h k e = less_rises (R (key (get_or xs i d)) c) (R (key (get_or xs j d)) c) (searchable_from_sorted o key xs c sorted i j d h k) e

    pub parted_up_to : IsPartitionedBy (λ x. is_le (R (key x) c)) xs
    parted_up_to i j d h k e = up_to_rises (R (key (get_or xs i d)) c) (R (key (get_or xs j d)) c) (searchable_from_sorted o key xs c sorted i j d h k) e

  -- between both points stand the elements of the key
  module _ (low high : ℕ) (d : X) (inside : low ≤ length xs) (within : high ≤ length xs) (lower : IsPartitionPoint (λ x. is_lt (R (key x) c) ≡ true) (λ x. is_lt (R (key x) c) ≡ false) xs low) (upper : IsPartitionPoint (λ x. is_le (R (key x) c) ≡ true) (λ x. is_le (R (key x) c) ≡ false) xs high) where
    pub equal_between : (i : ℕ) → low ≤ i → i < high → R (key (get_or xs i d)) c ≡ Equal
    equal_between i h k = equal_by (R (key (get_or xs i d)) c) (lower.1 i d h (omega (arith, k, within))) (upper.0 i d (omega arith) k)

    pub between_equal : (i : ℕ) → i < length xs → R (key (get_or xs i d)) c ≡ Equal → (low ≤ i) × (i < high)
    between_equal i h e = (
      elim (cases_lt i low) [ inl p ↦ absurd (true≢false (sym (lower.0 i d (omega arith) p) ∙ ap is_lt e)) | inr p ↦ p ],
      elim (cases_lt i high) [ inl p ↦ p | inr p ↦ absurd (true≢false (sym (ap is_le e) ∙ upper.1 i d p h)) ],
    )

    -- what is less is not greater
    less_up_to : (r : Ordering) → is_lt r ≡ true → is_le r ≡ false → low ≤ high
    less_up_to Less p q = absurd (true≢false q)
    less_up_to Equal p q = absurd (true≢false (sym p))
    less_up_to Greater p q = absurd (true≢false (sym p))

    pub points_rise : low ≤ high
    points_rise = elim (cases_lt high low) [
      | inl p ↦ less_up_to (R (key (get_or xs high d)) c) (lower.0 high d (omega arith) p) (upper.1 high d (omega arith) (omega (arith, p, inside)))
      | inr p ↦ p
    ]
