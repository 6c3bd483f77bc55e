-- What a search in sorted ranges finds.
use Rattle.std.proofs.Common.{◌≡◌, refl, ap, sym, ◌∙◌, ◌≤◌, ◌<◌, ℕ, zero, suc, List, [], ◌∷◌, length, None, Some, arith, slice_get, true, false}
use Rattle.std.specs.Prelude.{nat_lt, nat_le, IsTrue, ◌↔◌}
use Rattle.std.specs.List.{slice_index_or}
use Rattle.std.specs.List.Sorted.{IsPartitionedBy, IsPartitionPoint}
use Rattle.std.proofs.lemmas.Option.{slice_get_within, slice_get-get_or, get_or_from_slice_get}
use Rattle.std.proofs.lemmas.Bool.Decides.{nat_tests}
use mathlib.Core.Logic.{inl, inr}
use Rattle.ix_model.specs.declared.char_set.CharRange.{CharRange}
use Rattle.ix_model.specs.Matching.Ranges.{IsInRanges, AreAfter, AreApart}

-- a range that holds the character
pub record Holds (c : ℕ) (rs : List CharRange) : Type 0 where
  pub number : ℕ
  pub range : CharRange
  pub at : slice_get rs number ≡ Some range
  pub low : range.low ≤ c
  pub high : c ≤ range.high

pub holding : (c : ℕ) (rs : List CharRange) → IsInRanges c rs → Holds c rs
holding c [] h = absurd h
holding c (r ∷ rs) (inl h) = record { number = zero; range = r; at = refl; low = h.0; high = h.1 }
holding c (r ∷ rs) (inr h) =
    let k = holding c rs h in
    record { number = suc k.number; range = k.range; at = k.at; low = k.low; high = k.high }

pub held : (c : ℕ) (rs : List CharRange) (n : ℕ) (r : CharRange) → slice_get rs n ≡ Some r → r.low ≤ c → c ≤ r.high → IsInRanges c rs
held c [] n r e l h = absurd (cc e)
held c (x ∷ xs) zero r e l h = let q : x ≡ r = cc e in inl (omega (arith, l, ap (λ (z : CharRange). z.low) q), omega (arith, h, ap (λ (z : CharRange). z.high) q))
held c (x ∷ xs) (suc n) r e l h = inr (held c xs n r e l h)

-- a later range begins behind what ended before it
after_at : (last : ℕ) (rs : List CharRange) (n : ℕ) (r : CharRange) → AreAfter last rs → slice_get rs n ≡ Some r → (last < r.low) × (r.low ≤ r.high)
after_at last [] n r a e = absurd (cc e)
after_at last (x ∷ xs) zero r a e = let q : x ≡ r = cc e in (omega (arith, a.0, ap (λ (z : CharRange). z.low) q), omega (arith, a.1, ap (λ (z : CharRange). z.low) q, ap (λ (z : CharRange). z.high) q))
after_at last (x ∷ xs) (suc n) r a e = let k = after_at x.high xs n r a.2 e in (omega (arith, a.0, a.1, k.0), k.1)

later : (rs : List CharRange) (last m n : ℕ) (p q : CharRange) → AreAfter last rs → m < n → slice_get rs m ≡ Some p → slice_get rs n ≡ Some q → p.high < q.low
later [] last m n p q a h e f = absurd (cc e)
later (x ∷ xs) last zero zero p q a h e f = absurd (omega (arith, h))
later (x ∷ xs) last zero (suc n) p q a h e f = let o : x ≡ p = cc e in omega (arith, (after_at x.high xs n q a.2 f).0, ap (λ (z : CharRange). z.high) o)
later (x ∷ xs) last (suc m) zero p q a h e f = absurd (omega (arith, h))
later (x ∷ xs) last (suc m) (suc n) p q a h e f = later xs x.high m n p q a.2 (omega (arith, h)) e f

pub apart : (rs : List CharRange) (m n : ℕ) (p q : CharRange) → AreApart rs → m < n → slice_get rs m ≡ Some p → slice_get rs n ≡ Some q → p.high < q.low
apart [] m n p q a h e f = absurd (cc e)
apart (x ∷ xs) zero zero p q a h e f = absurd (omega (arith, h))
apart (x ∷ xs) zero (suc n) p q a h e f = let o : x ≡ p = cc e in omega (arith, (after_at x.high xs n q a.1 f).0, ap (λ (z : CharRange). z.high) o)
apart (x ∷ xs) (suc m) zero p q a h e f = absurd (omega (arith, h))
apart (x ∷ xs) (suc m) (suc n) p q a h e f = later xs x.high m n p q a.1 (omega (arith, h)) e f

ordered : (rs : List CharRange) (n : ℕ) (r : CharRange) → AreApart rs → slice_get rs n ≡ Some r → r.low ≤ r.high
ordered [] n r a e = absurd (cc e)
ordered (x ∷ xs) zero r a e = let q : x ≡ r = cc e in omega (arith, a.0, ap (λ (z : CharRange). z.low) q, ap (λ (z : CharRange). z.high) q)
ordered (x ∷ xs) (suc n) r a e = (after_at x.high xs n r a.1 e).1

-- those that end before the character come first
pub parted : (c : ℕ) (rs : List CharRange) → AreApart rs → IsPartitionedBy (λ r. nat_lt r.high c) rs
parted c rs a = λ i j d h l e. from i j d h l e (slice_get-get_or rs i d (omega (arith, h, l))) (slice_get-get_or rs j d l)
  where
    from : (i j : ℕ) (d : CharRange) → i ≤ j → j < length rs → nat_lt (slice_index_or rs j d).high c ≡ true → slice_get rs i ≡ Some (slice_index_or rs i d) → slice_get rs j ≡ Some (slice_index_or rs j d) → nat_lt (slice_index_or rs i d).high c ≡ true
    from i j d h l e p q = by (slice_index_or rs i d) (slice_index_or rs j d) p q e
      where
        by : (x y : CharRange) → slice_get rs i ≡ Some x → slice_get rs j ≡ Some y → nat_lt y.high c ≡ true → nat_lt x.high c ≡ true
        by x y p q e = grind (arith, nat_tests, e, below)
          where
            below : x.high ≤ y.high
            below = grind (arith, (λ (o : i < j). apart rs i j x y a o p q), ordered rs j y a q, (λ (o : i ≡ j). let w : x ≡ y = cc (p, q, o) in ap (λ (z : CharRange). z.high) w))

-- the range at the place where those that end before the character end
pub holds_at : (c : ℕ) (rs : List CharRange) → AreApart rs → (n : ℕ) (r : CharRange) → slice_get rs n ≡ Some r → IsPartitionPoint (λ r. nat_lt r.high c ≡ true) (λ r. nat_lt r.high c ≡ false) rs n → IsTrue (nat_le r.low c) ↔ IsInRanges c rs
holds_at c rs a n r e point = (there, back)
  where
    here : slice_index_or rs n r ≡ r
    here = get_or_from_slice_get rs n r r e

    ends : c ≤ r.high
    ends =
        let m : n ≤ n = omega arith in
        let q : nat_lt r.high c ≡ false = ap (λ (x : CharRange). nat_lt x.high c) (sym here) ∙ point.1 n r m (slice_get_within rs n r e) in
        grind (arith, nat_tests, q)

    there : IsTrue (nat_le r.low c) → IsInRanges c rs
    there h = held c rs n r e (grind (arith, nat_tests, h)) ends

    back : IsInRanges c rs → IsTrue (nat_le r.low c)
    back h = by (holding c rs h)
      where
        by : Holds c rs → IsTrue (nat_le r.low c)
        by k = grind (arith, nat_tests, start, k.low)
          where
            same : slice_index_or rs k.number r ≡ k.range
            same = get_or_from_slice_get rs k.number k.range r k.at

            before : k.number < n → ⊥
            before o =
                let z : 0 ≤ k.number = omega arith in
                let q : nat_lt k.range.high c ≡ true = ap (λ (x : CharRange). nat_lt x.high c) (sym same) ∙ point.0 k.number r z o in
                let w : k.range.high < c = grind (arith, nat_tests, q) in
                omega (arith, w, k.high)

            behind : n < k.number → ⊥
            behind o = omega (arith, apart rs n k.number r k.range a o e k.at, ends, k.low)

            at_once : n ≡ k.number
            at_once = grind (arith, before, behind)

            start : r.low ≤ c
            start = let q : r ≡ k.range = cc (e, k.at, at_once) in omega (arith, k.low, ap (λ (x : CharRange). x.low) q)

-- where all ranges end before the character, none holds it
pub holds_none : (c : ℕ) (rs : List CharRange) (n : ℕ) → slice_get rs n ≡ None → IsPartitionPoint (λ r. nat_lt r.high c ≡ true) (λ r. nat_lt r.high c ≡ false) rs n → IsTrue false ↔ IsInRanges c rs
holds_none c rs n e point = (λ h. absurd (cc h), λ h. absurd (by (holding c rs h)))
  where
    by : Holds c rs → ⊥
    by k =
        let z : 0 ≤ k.number = omega arith in
        let past = λ (m : n < length rs). let w : None ≡ Some (slice_index_or rs n k.range) = sym e ∙ slice_get-get_or rs n k.range m in absurd {A = ⊥} (cc w) in
        let o : k.number < n = grind (arith, past, slice_get_within rs k.number k.range k.at) in
        let q : nat_lt k.range.high c ≡ true = ap (λ (x : CharRange). nat_lt x.high c) (sym (get_or_from_slice_get rs k.number k.range k.range k.at)) ∙ point.0 k.number k.range z o in
        let w : k.range.high < c = grind (arith, nat_tests, q) in
        omega (arith, w, k.high)
