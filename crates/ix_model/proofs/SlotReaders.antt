-- The readers of a plan tell where a slot's dot stands.
use Rattle.std.proofs.Common.{◌≡◌, refl, ap, sym, subst, ◌∙◌, ◌+◌, ◌≤◌, ◌<◌, ℕ, zero, suc, List, [], ◌∷◌, length, Some, None, arith, slice_get}
use Rattle.std.proofs.lemmas.Option.{slice_get_within, slice_get_past, get_or_from_slice_get}
use Rattle.ix_model.specs.declared.rules.Sym.{Sym}
use Rattle.ix_model.specs.declared.plan.SlotInfo.{SlotInfo}
use Rattle.ix_model.specs.Expansion.Parts.{Parts}
use Rattle.ix_model.specs.Expansion.Planned.{IsPlanned}
use Rattle.ix_model.specs.Expansion.Numbered.{syms_at}
use Rattle.ix_model.specs.Expansion.Numbering.{slot}
use Rattle.ix_model.specs.Expansion.Slots.{IsSlot, info_at, sym_after}
use Rattle.ix_model.specs.Expansion.FlatDerives.{IsLine}
use Rattle.ix_model.specs.Expansion.SlotPlaces.{IsFirstSlot, IsLastSlot, HasNext}
use Rattle.ix_model.proofs.Readers.{syms_is, slot_at}
use Rattle.ix_model.proofs.Slots.{HasPlace, place_of, one_slot, next_number}

-- where nothing stands in a list it has ended
beyond : {A : Type 0} (xs : List A) (n : ℕ) → slice_get xs n ≡ None → length xs ≤ n
beyond [] n h = omega arith
beyond (x ∷ xs) zero h = absurd (cc h)
beyond (x ∷ xs) (suc n) h = omega (arith, beyond xs n h)

module _ (plan : Parts) where
  info_is : (s r a d : ℕ) → IsSlot plan s r a d → info_at plan s ≡ slot r a d
  info_is s r a d h = get_or_from_slice_get plan.slots s (slot r a d) (slot 0 0 0) h

  there : (s r a d : ℕ) → IsSlot plan s r a d → s < length plan.slots
  there s r a d h = slice_get_within plan.slots s (slot r a d) h

  -- the symbols of an alternative, by its numbers
  pub line_syms : (r a : ℕ) (syms : List Sym) → IsLine plan r a syms → syms_at plan.rules r a ≡ syms
  line_syms r a syms h = syms_is plan.rules r a h.0 h.1 h.2 h.3 ∙ h.4

  -- the symbol behind a dot, by the numbers of its alternative
  pub next_sym : (s after : ℕ) (x : Sym) (h : HasNext plan s after x) → slice_get (syms_at plan.rules h.0 h.1) h.2 ≡ Some x
  next_sym s after x h = ap (λ (z : List Sym). slice_get z h.2) (line_syms h.0 h.1 h.3 h.6) ∙ h.7

  after_is : (s r a d : ℕ) (syms : List Sym) → IsSlot plan s r a d → IsLine plan r a syms → sym_after plan s ≡ slice_get syms d
  after_is s r a d syms h line =
      ap (λ (i : SlotInfo). slice_get (syms_at plan.rules i.head i.alt) i.dot) (info_is s r a d h) ∙ ap (λ (z : List Sym). slice_get z d) (line_syms r a syms line)

  pub first_reads : (s r : ℕ) → IsFirstSlot plan s r → (s < length plan.slots) × ((info_at plan s).head ≡ r) × ((info_at plan s).dot ≡ 0)
  first_reads s r h =
      let i = info_is s r h.0 0 h.2 in
      (there s r h.0 0 h.2, ap (λ (z : SlotInfo). z.head) i, ap (λ (z : SlotInfo). z.dot) i)

  pub last_reads : (s r : ℕ) → IsLastSlot plan s r → (s < length plan.slots) × ((info_at plan s).head ≡ r) × (sym_after plan s ≡ None)
  last_reads s r h =
      let i = info_is s r h.0 (length h.1) h.2 in
      (there s r h.0 (length h.1) h.2, ap (λ (z : SlotInfo). z.head) i, after_is s r h.0 (length h.1) h.1 h.2 h.3 ∙ slice_get_past h.1 (length h.1) (omega arith))

module _ (plan : Parts) (planned : IsPlanned plan) where
  pub next_reads : (s after : ℕ) (x : Sym) → HasNext plan s after x → (s < length plan.slots) × (sym_after plan s ≡ Some x) × (after ≡ s + 1)
  next_reads s after x h =
      let o = slice_get_within h.3 h.2 x h.7 in
      let n = next_number plan planned s h.0 h.1 h.2 h.6.0 h.6.1 h.4 h.6.2 h.6.3 (omega (arith, o, ap length h.6.4)) in
      (there plan s h.0 h.1 h.2 h.4, after_is plan s h.0 h.1 h.2 h.3 h.4 h.6 ∙ h.7, one_slot plan planned after (s + 1) h.0 h.1 (h.2 + 1) h.5 n)

  place : (s : ℕ) → s < length plan.slots → HasPlace plan (info_at plan s)
  place s h = place_of plan planned s (info_at plan s) (slot_at plan planned s h)

  line_of : (s : ℕ) (h : s < length plan.slots) → IsLine plan (info_at plan s).head (info_at plan s).alt (place s h).line.syms
  line_of s h = let p = place s h in (p.flat, p.line, p.flat_at, p.line_at, refl)

  -- the slot by numbers equal to its own
  slot_by : (s r d : ℕ) → s < length plan.slots → (info_at plan s).head ≡ r → (info_at plan s).dot ≡ d → IsSlot plan s r (info_at plan s).alt d
  slot_by s r d h e f =
      subst (λ (z : ℕ). IsSlot plan s r (info_at plan s).alt z) f (subst (λ (z : ℕ). IsSlot plan s z (info_at plan s).alt (info_at plan s).dot) e (slot_at plan planned s h))

  line_by : (s r : ℕ) (h : s < length plan.slots) → (info_at plan s).head ≡ r → IsLine plan r (info_at plan s).alt (place s h).line.syms
  line_by s r h e = subst (λ (z : ℕ). IsLine plan z (info_at plan s).alt (place s h).line.syms) e (line_of s h)

  pub reads_first : (s r : ℕ) → (s < length plan.slots) × ((info_at plan s).head ≡ r) × ((info_at plan s).dot ≡ 0) → IsFirstSlot plan s r
  reads_first s r h = ((info_at plan s).alt, (place s h.0).line.syms, slot_by s r 0 h.0 h.1 h.2, line_by s r h.0 h.1)

  pub reads_last : (s r : ℕ) → (s < length plan.slots) × ((info_at plan s).head ≡ r) × (sym_after plan s ≡ None) → IsLastSlot plan s r
  reads_last s r h =
      let p = place s h.0 in
      let none : slice_get p.line.syms (info_at plan s).dot ≡ None = ap (λ (z : List Sym). slice_get z (info_at plan s).dot) (sym (line_syms plan (info_at plan s).head (info_at plan s).alt p.line.syms (line_of s h.0))) ∙ h.2 in
      ((info_at plan s).alt, p.line.syms, slot_by s r (length p.line.syms) h.0 h.1 (omega (arith, beyond p.line.syms (info_at plan s).dot none, p.within)), line_by s r h.0 h.1)

  pub reads_next : (s after : ℕ) (x : Sym) → (s < length plan.slots) × (sym_after plan s ≡ Some x) × (after ≡ s + 1) → HasNext plan s after x
  reads_next s after x h =
      let p = place s h.0 in
      let some : slice_get p.line.syms (info_at plan s).dot ≡ Some x = ap (λ (z : List Sym). slice_get z (info_at plan s).dot) (sym (line_syms plan (info_at plan s).head (info_at plan s).alt p.line.syms (line_of s h.0))) ∙ h.1 in
      let next = next_number plan planned s (info_at plan s).head (info_at plan s).alt (info_at plan s).dot p.flat p.line (slot_at plan planned s h.0) p.flat_at p.line_at (slice_get_within p.line.syms (info_at plan s).dot x some) in
      ((info_at plan s).head, (info_at plan s).alt, (info_at plan s).dot, p.line.syms, slot_at plan planned s h.0, ap (slice_get plan.slots) h.2 ∙ next, line_of s h.0, some)
