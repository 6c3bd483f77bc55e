-- Each place of an alternative has one slot, and slots stand in the order of their places.
use Rattle.std.proofs.Common.{◌≡◌, ap, sym, ◌∙◌, ◌+◌, ◌≤◌, ◌<◌, ℕ, zero, suc, List, length, Some, arith, slice_get, true, false}
use Rattle.std.proofs.lemmas.Option.{slice_get_within, slice_get-get_or}
use Rattle.std.proofs.lemmas.Bool.Decides.{nat_tests}
use Rattle.ix_model.specs.declared.rules.Line.{Line}
use Rattle.ix_model.specs.declared.rules.Flat.{Flat}
use Rattle.ix_model.specs.declared.plan.SlotInfo.{SlotInfo}
use Rattle.ix_model.specs.Expansion.Parts.{Parts}
use Rattle.ix_model.specs.Expansion.Numbering.{slot, numbering, is_before}
use Rattle.ix_model.specs.Expansion.Slots.{IsSlot, info_at}
use Rattle.ix_model.specs.Expansion.Planned.{IsPlanned}
use Rattle.ix_model.proofs.Numbers.{IsEarlier, by_rule, by_alt, by_dot, rules_in, rules_there, slots_order, same_info}

-- the slot's rule, alternative and dot are there
pub record HasPlace (p : Parts) (s : SlotInfo) : Type 0 where
  pub flat : Flat
  pub line : Line
  pub flat_at : slice_get p.rules.flats s.head ≡ Some flat
  pub line_at : slice_get flat.lines s.alt ≡ Some line
  pub within : s.dot ≤ length line.syms

not_earlier : (s : SlotInfo) → IsEarlier s s → ⊥
not_earlier s (by_rule h) = omega (arith, h)
not_earlier s (by_alt e h) = omega (arith, h)
not_earlier s (by_dot e f h) = omega (arith, h)

-- nothing stands between a dot and the next
not_between : (r a d : ℕ) (t : SlotInfo) → IsEarlier (slot r a d) t → IsEarlier t (slot r a (d + 1)) → ⊥
not_between r a d t (by_rule h) (by_rule k) = omega (arith, h, k)
not_between r a d t (by_rule h) (by_alt f k) = omega (arith, h, f)
not_between r a d t (by_rule h) (by_dot f g k) = omega (arith, h, f)
not_between r a d t (by_alt e h) (by_rule k) = omega (arith, e, k)
not_between r a d t (by_alt e h) (by_alt f k) = omega (arith, h, k)
not_between r a d t (by_alt e h) (by_dot f g k) = omega (arith, h, g)
not_between r a d t (by_dot e f h) (by_rule k) = omega (arith, e, k)
not_between r a d t (by_dot e f h) (by_alt g k) = omega (arith, f, k)
not_between r a d t (by_dot e f h) (by_dot g i k) = omega (arith, h, k)

-- what is before the first slot of an alternative is of an alternative before it
pub before_start : (r a : ℕ) (s : SlotInfo) → IsEarlier s (slot r a 0) → is_before r a s ≡ true
before_start r a s (by_rule h) = grind (arith, nat_tests, h)
before_start r a s (by_alt e h) = grind (arith, nat_tests, e, h)
before_start r a s (by_dot e f h) = absurd (omega (arith, h))

-- and what is behind it is not
behind_start : (r a : ℕ) (s : SlotInfo) → IsEarlier (slot r a 0) s → is_before r a s ≡ false
behind_start r a s (by_rule h) = grind (arith, nat_tests, h)
behind_start r a s (by_alt e h) = grind (arith, nat_tests, e, h)
behind_start r a s (by_dot e f h) = grind (arith, nat_tests, e, f)

pub start_itself : (r a : ℕ) → is_before r a (slot r a 0) ≡ false
start_itself r a = grind (arith, nat_tests)

module _ (p : Parts) (planned : IsPlanned p) where
  there : (n : ℕ) (s : SlotInfo) → slice_get p.slots n ≡ Some s → slice_get (numbering p.rules.flats) n ≡ Some s
  there n s e = ap (λ (z : List SlotInfo). slice_get z n) (sym planned.numbered) ∙ e

  pub place_of : (n : ℕ) (s : SlotInfo) → slice_get p.slots n ≡ Some s → HasPlace p s
  place_of n s e =
      let d = rules_in 0 p.rules.flats n s (there n s e) in
      record { flat = d.2; line = d.4; flat_at = ap (slice_get p.rules.flats) (omega (arith, d.1)) ∙ d.3; line_at = d.5; within = d.6 }

  -- each place has a slot
  pub slot_of : (r a dot : ℕ) (flat : Flat) (line : Line) → slice_get p.rules.flats r ≡ Some flat → slice_get flat.lines a ≡ Some line → dot ≤ length line.syms → (s : ℕ) × IsSlot p s r a dot
  slot_of r a dot flat line e f h =
      let t = rules_there 0 p.rules.flats r a dot flat line e f h in
      (t.0, ap (λ (z : List SlotInfo). slice_get z t.0) planned.numbered ∙ t.1 ∙ ap (λ (z : ℕ). Some (slot z a dot)) (omega arith))

  pub order : (m n : ℕ) (s t : SlotInfo) → m < n → slice_get p.slots m ≡ Some s → slice_get p.slots n ≡ Some t → IsEarlier s t
  order m n s t h e f = slots_order p.rules.flats m n s t h (there m s e) (there n t f)

  -- and no place has two
  pub one_slot : (m n r a dot : ℕ) → IsSlot p m r a dot → IsSlot p n r a dot → m ≡ n
  one_slot m n r a dot e f = grind (arith, below, above)
    where
      below : m < n → ⊥
      below h = not_earlier (slot r a dot) (order m n (slot r a dot) (slot r a dot) h e f)

      above : n < m → ⊥
      above h = not_earlier (slot r a dot) (order n m (slot r a dot) (slot r a dot) h f e)

  -- nothing stands before what is earlier
  not_back : (r a d : ℕ) → IsEarlier (slot r a (d + 1)) (slot r a d) → ⊥
  not_back r a d (by_rule h) = omega (arith, h)
  not_back r a d (by_alt e h) = omega (arith, h)
  not_back r a d (by_dot e f h) = omega (arith, h)

  -- the slot with the dot one further has the next number
  pub next_number : (s r a d : ℕ) (flat : Flat) (line : Line) → IsSlot p s r a d → slice_get p.rules.flats r ≡ Some flat → slice_get flat.lines a ≡ Some line → d < length line.syms → IsSlot p (s + 1) r a (d + 1)
  next_number s r a d flat line at e f h = ap (λ (n : ℕ). slice_get p.slots n) same ∙ v.1
    where
      v : (n : ℕ) × IsSlot p n r a (d + 1)
      v = slot_of r a (d + 1) flat line e f (omega (arith, h))

      at_once : v.0 ≡ s → ⊥
      at_once q = omega (arith, ap (λ (z : SlotInfo). z.dot) (same_info (slot r a d) (slot r a (d + 1)) (sym at ∙ ap (λ (n : ℕ). slice_get p.slots n) (sym q) ∙ v.1)))

      before : v.0 < s → ⊥
      before k = not_back r a d (order v.0 s (slot r a (d + 1)) (slot r a d) k v.1 at)

      behind : s + 1 < v.0 → ⊥
      behind k =
          let n : s + 1 < length p.slots = omega (arith, k, slice_get_within p.slots v.0 (slot r a (d + 1)) v.1) in
          let t = slice_get-get_or p.slots (s + 1) (slot 0 0 0) n in
          let o : s < s + 1 = omega arith in
          not_between r a d (info_at p (s + 1)) (order s (s + 1) (slot r a d) (info_at p (s + 1)) o at t) (order (s + 1) v.0 (info_at p (s + 1)) (slot r a (d + 1)) k t v.1)

      same : s + 1 ≡ v.0
      same = grind (arith, at_once, before, behind)

  -- the slot with the dot n further
  pub further : (n s r a d : ℕ) (flat : Flat) (line : Line) → IsSlot p s r a d → slice_get p.rules.flats r ≡ Some flat → slice_get flat.lines a ≡ Some line → d + n ≤ length line.syms → IsSlot p (s + n) r a (d + n)
  further zero s r a d flat line at e f h = ap (λ (n : ℕ). slice_get p.slots n) (omega arith) ∙ at ∙ ap (λ (n : ℕ). Some (slot r a n)) (omega arith)
  further (suc n) s r a d flat line at e f h =
      let next = next_number s r a d flat line at e f (omega (arith, h)) in
      let o : s + suc n ≡ s + 1 + n = omega arith in
      let q : d + 1 + n ≡ d + suc n = omega arith in
      ap (λ (m : ℕ). slice_get p.slots m) o ∙ further n (s + 1) r a (d + 1) flat line next e f (omega (arith, h)) ∙ ap (λ (m : ℕ). Some (slot r a m)) q
