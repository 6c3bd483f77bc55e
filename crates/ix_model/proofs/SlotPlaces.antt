-- A slot has one place, an alternative one list of symbols, and each place of it one slot.
use Rattle.std.proofs.Common.{◌≡◌, ap, sym, subst, ◌∙◌, ◌+◌, ◌≤◌, ℕ, List, length, Some, arith, slice_get}
use Rattle.std.proofs.lemmas.Option.{slice_get_within}
use Rattle.ix_model.specs.declared.rules.Sym.{Sym}
use Rattle.ix_model.specs.declared.rules.Line.{Line}
use Rattle.ix_model.specs.declared.plan.SlotInfo.{SlotInfo}
use Rattle.ix_model.specs.Expansion.Parts.{Parts}
use Rattle.ix_model.specs.Expansion.Planned.{IsPlanned}
use Rattle.ix_model.specs.Expansion.Numbering.{slot}
use Rattle.ix_model.specs.Expansion.Slots.{IsSlot}
use Rattle.ix_model.specs.Expansion.FlatDerives.{IsLine}
use Rattle.ix_model.specs.Expansion.SlotPlaces.{HasNext, IsLastSlot}
use Rattle.ix_model.proofs.Numbers.{same_info}
use Rattle.ix_model.proofs.Slots.{slot_of, one_slot}

module _ (plan : Parts) where
  pub same_slot : (s r a d q b e : ℕ) → IsSlot plan s r a d → IsSlot plan s q b e → (r ≡ q) × (a ≡ b) × (d ≡ e)
  same_slot s r a d q b e h k =
      let i = same_info (slot r a d) (slot q b e) (sym h ∙ k) in
      (ap (λ (z : SlotInfo). z.head) i, ap (λ (z : SlotInfo). z.alt) i, ap (λ (z : SlotInfo). z.dot) i)

  pub same_line : (r a : ℕ) (xs ys : List Sym) → IsLine plan r a xs → IsLine plan r a ys → xs ≡ ys
  same_line r a xs ys h k =
      let f : h.0 ≡ k.0 = cc (h.2, k.2) in
      let l : h.1 ≡ k.1 = cc (h.3, k.3, f) in
      sym h.4 ∙ ap (λ (z : Line). z.syms) l ∙ k.4

  -- an alternative by equal numbers
  pub line_by : (r q a b : ℕ) (syms : List Sym) → r ≡ q → a ≡ b → IsLine plan r a syms → IsLine plan q b syms
  line_by r q a b syms e f h = subst (λ (z : ℕ). IsLine plan q z syms) f (subst (λ (z : ℕ). IsLine plan z a syms) e h)

  -- no symbol follows the end of an alternative
  pub next_not_last : (s after q : ℕ) (x : Sym) → HasNext plan s after x → IsLastSlot plan s q → ⊥
  next_not_last s after q x h l =
      let e = same_slot s h.0 h.1 h.2 q l.0 (length l.1) h.4 l.2 in
      omega (arith, e.2, slice_get_within h.3 h.2 x h.7, ap length (same_line q l.0 h.3 l.1 (line_by h.0 q h.1 l.0 h.3 e.0 e.1 h.6) l.3))

  -- the next place by the slot's own numbers
  pub next_at : (s after r a dot : ℕ) (syms : List Sym) (x : Sym) → HasNext plan s after x → IsSlot plan s r a dot → IsLine plan r a syms → IsSlot plan after r a (dot + 1) × (slice_get syms dot ≡ Some x)
  next_at s after r a dot syms x h at line =
      let e = same_slot s h.0 h.1 h.2 r a dot h.4 at in
      (h.5 ∙ cc (e.0, e.1, e.2), cc (h.7, e.2, same_line r a h.3 syms (line_by h.0 r h.1 a h.3 e.0 e.1 h.6) line))

module _ (plan : Parts) (planned : IsPlanned plan) where
  -- each place of an alternative has a slot
  pub slot_for : (r a dot : ℕ) (syms : List Sym) → IsLine plan r a syms → dot ≤ length syms → (s : ℕ) × IsSlot plan s r a dot
  slot_for r a dot syms h o = slot_of plan planned r a dot h.0 h.1 h.2 h.3 (omega (arith, o, ap length h.4))

  -- the slot before a symbol of an alternative
  pub record SlotBefore (after r a dot : ℕ) (x : Sym) : Type 0 where
    pub slot : ℕ
    pub at : IsSlot plan slot r a dot
    pub next : HasNext plan slot after x

  pub before_of : (after r a dot : ℕ) (syms : List Sym) (x : Sym) → IsLine plan r a syms → IsSlot plan after r a (dot + 1) → slice_get syms dot ≡ Some x → SlotBefore after r a dot x
  before_of after r a dot syms x line at e =
      let p = slot_for r a dot syms line (omega (arith, slice_get_within syms dot x e)) in
      record { slot = p.0; at = p.1; next = (r, a, dot, syms, p.1, at, line, e) }

  -- no slot is next to two
  pub same_before : (s t after : ℕ) (x y : Sym) → HasNext plan s after x → HasNext plan t after y → s ≡ t
  same_before s t after x y h k =
      let e = same_slot plan after h.0 h.1 (h.2 + 1) k.0 k.1 (k.2 + 1) h.5 k.5 in
      let d : h.2 ≡ k.2 = omega (arith, e.2) in
      one_slot plan planned s t k.0 k.1 k.2 (h.4 ∙ cc (e.0, e.1, d)) k.4
