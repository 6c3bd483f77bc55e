-- What the readers of a plan answer.
use Rattle.std.proofs.Common.{◌≡◌, refl, ap, sym, ◌∙◌, ◌+◌, ◌^◌, ◌≤◌, ◌<◌, ℕ, zero, suc, List, [], ◌∷◌, length, length-append, Some, arith, slice_get, true, false}
use Rattle.std.specs.Prelude.{IsSome}
use Rattle.std.specs.List.{slice_index_or}
use Rattle.std.specs.List.Sorted.{IsPartitionedBy, IsPartitionPoint}
use Rattle.std.proofs.lemmas.Option.{slice_get_within, slice_get-get_or, get_or_from_slice_get}
use Rattle.std.proofs.lemmas.Bool.Decides.{nat_tests}
use Rattle.ix_model.specs.declared.rules.Line.{Line}
use Rattle.ix_model.specs.declared.rules.Flat.{Flat}
use Rattle.ix_model.specs.declared.rules.Rules.{Rules}
use Rattle.ix_model.specs.declared.plan.SlotInfo.{SlotInfo}
use Rattle.ix_model.specs.Expansion.Parts.{Parts}
use Rattle.ix_model.specs.Expansion.Numbered.{lines_at, syms_at}
use Rattle.ix_model.specs.Expansion.Numbering.{slot, dots_from, alts_from, rules_from, is_before}
use Rattle.ix_model.specs.Expansion.Slots.{IsSlot, info_at, sym_after}
use Rattle.ix_model.specs.Expansion.Planned.{IsPlanned}
use Rattle.ix_model.proofs.Numbers.{IsEarlier, by_rule, by_alt, by_dot}
use Rattle.ix_model.proofs.Slots.{place_of, slot_of, order, next_number, further, before_start, start_itself}

pub lines_is : (rules : Rules) (r : ℕ) (flat : Flat) → slice_get rules.flats r ≡ Some flat → lines_at rules r ≡ flat.lines
lines_is rules r flat e = rw e refl

pub syms_is : (rules : Rules) (r a : ℕ) (flat : Flat) (line : Line) → slice_get rules.flats r ≡ Some flat → slice_get flat.lines a ≡ Some line → syms_at rules r a ≡ line.syms
syms_is rules r a flat line e f = rw (e, f) refl

-- the alternative with this number
pub record HasLine (rules : Rules) (r a : ℕ) : Type 0 where
  pub flat : Flat
  pub line : Line
  pub flat_at : slice_get rules.flats r ≡ Some flat
  pub line_at : slice_get flat.lines a ≡ Some line

pub get_within : {A : Type 0} (xs : List A) (n : ℕ) → n < length xs → (x : A) × (slice_get xs n ≡ Some x)
get_within [] n h = absurd (omega (arith, h))
get_within (x ∷ xs) zero h = (x, refl)
get_within (x ∷ xs) (suc n) h = get_within xs n (omega (arith, h))

some_within : {A : Type 0} (xs : List A) (n : ℕ) → IsSome (slice_get xs n) → n < length xs
some_within [] n h = absurd (cc h)
some_within (x ∷ xs) zero h = omega arith
some_within (x ∷ xs) (suc n) h = omega (arith, some_within xs n h)

pub has_line : (rules : Rules) (r a : ℕ) → r < length rules.flats → a < length (lines_at rules r) → HasLine rules r a
has_line rules r a h k =
    let f = get_within rules.flats r h in
    let q = lines_is rules r f.0 f.1 in
    let l = get_within f.0.lines a (omega (arith, k, ap (λ (xs : List Line). length xs) q)) in
    record { flat = f.0; line = l.0; flat_at = f.1; line_at = l.1 }

-- ---- there are at least as many slots as alternatives

dots_some : (r a d n : ℕ) → 0 < length (dots_from r a d n)
dots_some r a d zero = omega arith
dots_some r a d (suc n) = omega arith

alts_some : (r a : ℕ) (xs : List Line) → length xs ≤ length (alts_from r a xs)
alts_some r a [] = omega arith
alts_some r a (x ∷ xs) = omega (arith, dots_some r a 0 (length x.syms), alts_some r (a + 1) xs, length-append (dots_from r a 0 (length x.syms)) (alts_from r (a + 1) xs))

rules_some : (r : ℕ) (fs : List Flat) (n : ℕ) (flat : Flat) → slice_get fs n ≡ Some flat → length flat.lines ≤ length (rules_from r fs)
rules_some r [] n flat e = absurd (cc e)
rules_some r (x ∷ xs) zero flat e =
    let q : x ≡ flat = cc e in
    omega (arith, alts_some r 0 x.lines, ap (λ (z : Flat). length z.lines) q, length-append (alts_from r 0 x.lines) (rules_from (r + 1) xs))
rules_some r (x ∷ xs) (suc n) flat e = omega (arith, rules_some (r + 1) xs n flat e, length-append (alts_from r 0 x.lines) (rules_from (r + 1) xs))

-- ---- a test that holds of all slots before an alternative, and of no others

before_earlier : (r a : ℕ) (s t : SlotInfo) → IsEarlier s t → is_before r a t ≡ true → is_before r a s ≡ true
before_earlier r a s t (by_rule h) e = grind (arith, nat_tests, h, e)
before_earlier r a s t (by_alt f h) e = grind (arith, nat_tests, f, h, e)
before_earlier r a s t (by_dot f g h) e = grind (arith, nat_tests, f, g, e)

module _ (p : Parts) (planned : IsPlanned p) where
  pub lines_fit : (r : ℕ) → r < length p.rules.flats → length (lines_at p.rules r) < 2 ^ 32
  lines_fit r h =
      let f = get_within p.rules.flats r h in
      omega (arith, rules_some 0 p.rules.flats r f.0 f.1, planned.slots_fit, ap (λ (xs : List SlotInfo). length xs) planned.numbered, ap (λ (xs : List Line). length xs) (lines_is p.rules r f.0 f.1))

  pub slot_at : (n : ℕ) → n < length p.slots → slice_get p.slots n ≡ Some (info_at p n)
  slot_at n h = slice_get-get_or p.slots n (slot 0 0 0) h

  pub head_there : (n : ℕ) → n < length p.slots → (info_at p n).head < length p.rules.flats
  head_there n h = let f = place_of p planned n (info_at p n) (slot_at n h) in slice_get_within p.rules.flats (info_at p n).head f.flat f.flat_at

  pub alt_there : (n : ℕ) → n < length p.slots → (info_at p n).alt < length (lines_at p.rules (info_at p n).head)
  alt_there n h =
      let f = place_of p planned n (info_at p n) (slot_at n h) in
      omega (arith, slice_get_within f.flat.lines (info_at p n).alt f.line f.line_at, ap (λ (xs : List Line). length xs) (lines_is p.rules (info_at p n).head f.flat f.flat_at))

  pub next_is : (n : ℕ) → n < length p.slots → IsSome (sym_after p n) → IsSlot p (n + 1) (info_at p n).head (info_at p n).alt ((info_at p n).dot + 1)
  next_is n h x =
      let f = place_of p planned n (info_at p n) (slot_at n h) in
      let q = syms_is p.rules (info_at p n).head (info_at p n).alt f.flat f.line f.flat_at f.line_at in
      let o : (info_at p n).dot < length f.line.syms = rw q at (some_within _ (info_at p n).dot x) in
      next_number p planned n (info_at p n).head (info_at p n).alt (info_at p n).dot f.flat f.line (slot_at n h) f.flat_at f.line_at o

  pub split_by : (r a : ℕ) → IsPartitionedBy (is_before r a) p.slots
  split_by r a i j d h l e = by (slice_index_or p.slots i d) (slice_index_or p.slots j d) (slice_get-get_or p.slots i d (omega (arith, h, l))) (slice_get-get_or p.slots j d l) e
    where
      by : (s t : SlotInfo) → slice_get p.slots i ≡ Some s → slice_get p.slots j ≡ Some t → is_before r a t ≡ true → is_before r a s ≡ true
      by s t f g e = grind (arith, (λ (o : i < j). before_earlier r a s t (order p planned i j s t o f g) e), (λ (o : i ≡ j). let w : s ≡ t = cc (f, g, o) in ap (is_before r a) w ∙ e))

  pub first_is : (r a n : ℕ) → r < length p.rules.flats → a < length (lines_at p.rules r) → n ≤ length p.slots → IsPartitionPoint (λ s. is_before r a s ≡ true) (λ s. is_before r a s ≡ false) p.slots n → IsSlot p n r a 0
  first_is r a n h k w point = ap (λ (m : ℕ). slice_get p.slots m) same ∙ v.1
    where
      l : HasLine p.rules r a
      l = has_line p.rules r a h k

      v : (m : ℕ) × IsSlot p m r a 0
      v = slot_of p planned r a 0 l.flat l.line l.flat_at l.line_at (omega arith)

      within : v.0 < length p.slots
      within = slice_get_within p.slots v.0 (slot r a 0) v.1

      here : info_at p v.0 ≡ slot r a 0
      here = get_or_from_slice_get p.slots v.0 (slot r a 0) (slot 0 0 0) v.1

      below : v.0 < n → ⊥
      below o = let q : false ≡ true = sym (start_itself r a) ∙ ap (is_before r a) (sym here) ∙ point.0 v.0 (slot 0 0 0) (omega arith) o in cc q

      above : n < v.0 → ⊥
      above o =
          let m : n ≤ n = omega arith in
          let f = slot_at n (omega (arith, o, within)) in
          let q : false ≡ true = sym (point.1 n (slot 0 0 0) m (omega (arith, o, within))) ∙ before_start r a (info_at p n) (order p planned n v.0 (info_at p n) (slot r a 0) o f v.1) in
          cc q

      same : n ≡ v.0
      same = grind (arith, below, above)

  pub last_is : (r a n : ℕ) → r < length p.rules.flats → a < length (lines_at p.rules r) → IsSlot p n r a 0 → IsSlot p (n + length (syms_at p.rules r a)) r a (length (syms_at p.rules r a))
  last_is r a n h k at =
      let l = has_line p.rules r a h k in
      let q = syms_is p.rules r a l.flat l.line l.flat_at l.line_at in
      let o : 0 + length l.line.syms ≤ length l.line.syms = omega arith in
      let z : 0 + length l.line.syms ≡ length l.line.syms = omega arith in
      rw q (further p planned (length l.line.syms) n r a 0 l.flat l.line at l.flat_at l.line_at o ∙ ap (λ (m : ℕ). Some (slot r a m)) z)
