-- Ranges that rise with gaps, as those of a set.
use Rattle.std.proofs.Common.{◌≡◌, ℕ, ◌+◌, ◌≤◌, true, List, [], ◌∷◌, map, inl, inr, IsTrue, arith}
use Rattle.std.proofs.lemmas.Bool.{and_parts, or_cases, or_left, or_right, both_ways}
use Rattle.regex_class.specs.Ranges.{Range, in_ranges, rises_from, IsCanonical}
use Rattle.regex_class.proofs.RangesLemmas.{in_range_tells, fits_from-true}
use Rattle.ix_sets.specs.CharRanges.{char_range}
use Rattle.ix_model.specs.Matching.Ranges.{IsInRanges, AreAfter, AreApart}

rises_parts : (n : ℕ) (r : Range) (rs : List Range) → rises_from n (r ∷ rs) ≡ true → (n ≤ r.0) × (r.0 ≤ r.1) × (rises_from (r.1 + 2) rs ≡ true)
unfolding rises_from
rises_parts n r rs h =
    let parts = and_parts _ _ h in
    let fits = fits_from-true n r parts.0 in
    (fits.0, fits.1, parts.1)

after : (last n : ℕ) (rs : List Range) → last + 2 ≤ n → rises_from n rs ≡ true → AreAfter last (map char_range rs)
after last n [] h rises = tt
after last n (r ∷ rs) h rises =
    let parts = rises_parts n r rs rises in
    (omega arith, parts.1, after r.1 (r.1 + 2) rs (omega arith) parts.2)

pub apart : (rs : List Range) → IsCanonical rs → AreApart (map char_range rs)
apart [] h = tt
apart (r ∷ rs) h =
    let parts = rises_parts 0 r rs h in
    (parts.1, after r.1 (r.1 + 2) rs (omega arith) parts.2)

pub held_in : (c : ℕ) (rs : List Range) → IsInRanges c (map char_range rs) → IsTrue (in_ranges rs c)
unfolding in_ranges
held_in c [] h = absurd h
held_in c (r ∷ rs) (inl h) = or_left _ _ (elim (in_range_tells r c) [
  | inl t ↦ t.0
  | inr f ↦ absurd (elim f.1 [ inl below ↦ omega arith | inr above ↦ omega arith ])
])
held_in c (r ∷ rs) (inr h) = or_right _ _ (held_in c rs h)

pub in_held : (c : ℕ) (rs : List Range) → IsTrue (in_ranges rs c) → IsInRanges c (map char_range rs)
unfolding in_ranges
in_held c [] h = absurd (cc h)
in_held c (r ∷ rs) h = elim (or_cases _ _ h) [
  | inl t ↦ inl (elim (in_range_tells r c) [ inl at ↦ (at.1, at.2) | inr f ↦ absurd (both_ways _ f.0 t) ])
  | inr t ↦ inr (in_held c rs t)
]
