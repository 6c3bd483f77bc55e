-- The trees before a slot's dot, by the slot's own numbers.
use Rattle.std.proofs.Common.{◌≡◌, refl, sym, ap, subst, ◌∙◌, ◌⊎◌, ◌+◌, ◌-◌, ◌<◌, ℕ, zero, suc, List, length, arith, slice_get, Some, None}
use Rattle.std.proofs.lemmas.Option.{slice_get_within, get_or_from_slice_get}
use Rattle.std.proofs.lemmas.List.Elements.{Contains-get_or}
use mathlib.Core.Logic.{inl, inr}
use Rattle.ix_model.specs.declared.plan.SlotInfo.{SlotInfo}
use Rattle.ix_model.specs.declared.rules.Kind.TheVariants as kind
use Rattle.ix_model.specs.declared.rules.Sym.{Sym}
use Rattle.ix_model.specs.declared.rules.Sym.TheVariants as sy
use Rattle.ix_model.specs.Expansion.Parts.{Parts}
use Rattle.ix_model.specs.Expansion.Planned.{IsPlanned}
use Rattle.ix_model.specs.Expansion.Numbered.{kind_at, lines_at, syms_at}
use Rattle.ix_model.specs.Expansion.Numbering.{slot}
use Rattle.ix_model.specs.Expansion.Slots.{IsSlot, info_at, sym_after}
use Rattle.ix_model.specs.Expansion.SlotPlaces.{IsLastSlot, HasNext}
use Rattle.ix_model.specs.Expansion.FlatTrees.{FlatTree, FlatTrees, no_flat, flats_and, flat_count}
use Rattle.ix_model.specs.Expansion.FlatDerives.{FlatDerives, FlatDerivesFirst}
use Rattle.ix_model.proofs.Readers.{get_within, slot_at, alt_there}
use Rattle.ix_model.proofs.SlotReaders.{next_reads, reads_next}
use Rattle.ix_model.proofs.SlotPlaces.{before_of}
use Rattle.ix_model.proofs.Slots.{HasPlace, place_of}
use Rattle.ix_closure_laws.specs.ClosedLaws.{Covers}
use Rattle.ix_closure_laws.specs.Reached.{as_last, root}
use Rattle.ix_closure_laws.specs.UsefulLaws.{HasUseful}
use Rattle.ix_closure_laws.proofs.Frames.{tree_root, useful_of, useful_tree}
use Rattle.ix_subtrees.specs.declared.entry.Entry.{Entry}
use Rattle.ix_subtrees.specs.Entries.{entry_at, entry_for}
use Rattle.ix_subtrees.specs.Sets.{AreWays, sub_of_entry}
use Rattle.ix_first_laws.specs.Bounded.{TreesWithin, IsBestTrees}
use Rattle.ix_first_laws.proofs.Lines.{line_is, line_syms}
use Rattle.ix_height.specs.Spans.{of_slot, of_rule, IsOfUse}
use Rattle.ix_height.proofs.Uses.{alt_of_use, before_of_use, child_of_use}
use Rattle.ix_choice.specs.SlotTrees.{slot_syms, AreBefore, AreBeforeWithin, AreBestBefore, MayStart, IsSymOfUse, IsSlotOfUse}

module _ (plan : Parts) where
  pub info_is : (s r a n : ℕ) → IsSlot plan s r a n → info_at plan s ≡ slot r a n
  info_is s r a n h = get_or_from_slice_get plan.slots s (slot r a n) (slot 0 0 0) h

  pub slot_there : (s r a n : ℕ) → IsSlot plan s r a n → s < length plan.slots
  slot_there s r a n h = slice_get_within plan.slots s (slot r a n) h

  -- a rule with a span that is of use is there
  pub rule_there : (r i j : ℕ) → IsOfUse plan (of_rule r i j) → r < length plan.rules.flats
  rule_there r i j u = let last : IsLastSlot plan u.0 r = u.2 in slice_get_within plan.rules.flats r last.3.0 last.3.2

  pub are_before : (s i j : ℕ) (ds : FlatTrees) → Covers plan s ds i j → AreBefore plan s i j ds
  are_before s i j ds (r, a, syms, at, line, trees) =
      subst (λ (z : SlotInfo). FlatDerivesFirst plan ds (syms_at plan.rules z.head z.alt) i j × (flat_count ds ≡ z.dot)) (sym (info_is s r a (flat_count ds) at))
      (subst (λ (z : List Sym). FlatDerivesFirst plan ds z i j) (sym (line_syms plan r a syms line)) trees, refl)

  -- the next slot is of the same alternative
  pub next_info : (v s : ℕ) (x : Sym) → HasNext plan v s x → info_at plan s ≡ slot (info_at plan v).head (info_at plan v).alt ((info_at plan v).dot + 1)
  next_info v s x n = info_is s n.0 n.1 (n.2 + 1) n.5 ∙ ap (λ (z : SlotInfo). slot z.head z.alt (z.dot + 1)) (sym (info_is v n.0 n.1 n.2 n.4))

  -- at the end of an alternative, all its trees are before the dot
  pub best_at_end : (b s r a i j : ℕ) (ds : FlatTrees) → IsSlot plan s r a (length (syms_at plan.rules r a)) → IsBestTrees plan b (syms_at plan.rules r a) (length (syms_at plan.rules r a)) i j ds → AreBestBefore plan b s i j ds
  best_at_end b s r a i j ds at y = subst (λ (z : SlotInfo). IsBestTrees plan b (syms_at plan.rules z.head z.alt) z.dot i j ds) (sym (info_is s r a (length (syms_at plan.rules r a)) at)) y

module _ (plan : Parts) (planned : IsPlanned plan) where
  pub covers_of : (s i j : ℕ) (ds : FlatTrees) → s < length plan.slots → AreBefore plan s i j ds → Covers plan s ds i j
  covers_of s i j ds h (trees, count) = (
    (info_at plan s).head,
    (info_at plan s).alt,
    slot_syms plan s,
    subst (λ (z : ℕ). IsSlot plan s (info_at plan s).head (info_at plan s).alt z) (sym count) (slot_at plan planned s h),
    line_is plan (info_at plan s).head (info_at plan s).alt (alt_there plan planned s h),
    trees,
  )

  -- where no slot is before it, the dot is at the beginning
  pub at_beginning : (s : ℕ) → s < length plan.slots → ((v : ℕ) (x : Sym) → HasNext plan v s x → ⊥) → (info_at plan s).dot ≡ 0
  at_beginning s h none = by_dot (info_at plan s).dot refl
    where
      place : HasPlace plan (info_at plan s)
      place = place_of plan planned s (info_at plan s) (slot_at plan planned s h)

      by_dot : (n : ℕ) → (info_at plan s).dot ≡ n → (info_at plan s).dot ≡ 0
      by_dot zero e = e
      by_dot (suc n) e =
          let x = get_within place.line.syms n (omega (arith, e, place.within)) in
          let at : IsSlot plan s (info_at plan s).head (info_at plan s).alt (n + 1) = subst (λ (z : ℕ). IsSlot plan s (info_at plan s).head (info_at plan s).alt z) (omega (arith, e)) (slot_at plan planned s h) in
          let b = before_of plan planned s (info_at plan s).head (info_at plan s).alt n place.line.syms x.0 (place.flat, place.line, place.flat_at, place.line_at, refl) at x.1 in
          absurd (none b.slot x.0 b.next)

  pub none_before : (s : ℕ) → s < length plan.slots → (s ≡ 0) ⊎ (sym_after plan (s - 1) ≡ None) → (info_at plan s).dot ≡ 0
  none_before s h (inl e) = at_beginning s h (λ v x n. omega (arith, e, (next_reads plan planned v s x n).2))
  none_before s h (inr e) = at_beginning s h (λ v x n. let r = next_reads plan planned v s x n in let i : v ≡ s - 1 = omega (arith, r.2) in absurd (cc (i, e, r.1)))

  pub one_before : (s : ℕ) (x : Sym) → s < length plan.slots → (s ≡ 0 → ⊥) → sym_after plan (s - 1) ≡ Some x → ((s - 1) + 1 ≡ s) × HasNext plan (s - 1) s x
  one_before s x h some e = (omega (arith, some), reads_next plan planned (s - 1) s x (omega (arith, h), e, omega (arith, some)))

  -- ---- a slot s behind the symbol x, and the slot v before it

  module _ (v s : ℕ) (x : Sym) (n : HasNext plan v s x) where
    pub before_there : v < length plan.slots
    before_there = (next_reads plan planned v s x n).0

    pub symbol_at : slice_get (slot_syms plan v) (info_at plan v).dot ≡ Some x
    symbol_at = (next_reads plan planned v s x n).1

    -- the symbol's span is of use where the slot's is
    pub child_used : (i k j : ℕ) (ds : FlatTrees) (d : FlatTree) → IsOfUse plan (of_slot s i j) → AreBefore plan v i k ds → FlatDerives plan d x k j → IsSymOfUse plan x k j
    child_used i k j ds d u trees t = by_symbol x n t
      where
        by_symbol : (y : Sym) → HasNext plan v s y → FlatDerives plan d y k j → IsSymOfUse plan y k j
        by_symbol (sy.Term m shown) h t = tt
        by_symbol (sy.Insert m) h t = tt
        by_symbol (sy.Rule q m) h t = child_of_use plan planned v s i k j q m ds d u h (covers_of v i k ds before_there trees) t

    -- and so is the span of the slot before
    pub before_used : (i k j : ℕ) (ds : FlatTrees) (d : FlatTree) → IsOfUse plan (of_slot s i j) → AreBefore plan v i k ds → FlatDerives plan d x k j → IsSlotOfUse plan v i k
    before_used i k j ds d u trees t = (before_there, by_trees ds trees)
      where
        by_trees : (es : FlatTrees) → AreBefore plan v i k es → ((info_at plan v).dot ≡ 0) ⊎ IsOfUse plan (of_slot v i k)
        by_trees no_flat h = inl (sym h.1)
        by_trees (flats_and es e) h = inr (before_of_use plan planned v s i k j x es e d u n (covers_of v i k (flats_and es e) before_there h) t)

    -- the slot has a symbol before its dot
    pub slot_used : (i j : ℕ) → IsSlotOfUse plan s i j → IsOfUse plan (of_slot s i j)
    slot_used i j (h, inl e) = absurd (omega (arith, e, ap (λ (z : SlotInfo). z.dot) (next_info plan v s x n)))
    slot_used i j (h, inr u) = u

    -- the last of the trees before the dot starts somewhere
    pub some_start : (b i j : ℕ) (ds : FlatTrees) → AreBeforeWithin plan b s i j ds → (k : ℕ) × MayStart plan b v x i j k
    some_start b i j ds h = by_trees ds (subst (λ (z : SlotInfo). TreesWithin plan b (syms_at plan.rules z.head z.alt) z.dot i j ds) (next_info plan v s x n) h)
      where
        by_trees : (es : FlatTrees) → TreesWithin plan b (slot_syms plan v) ((info_at plan v).dot + 1) i j es → (k : ℕ) × MayStart plan b v x i j k
        by_trees no_flat h = absurd (omega (arith, h.1))
        by_trees (flats_and es e) ((k, y, front, at, last), count, high) =
            let c : flat_count es ≡ (info_at plan v).dot = omega (arith, count) in
            let same : y ≡ x = cc (c, at, symbol_at) in
            (k, (es, e, (front, c, omega (arith, high)), (subst (λ z. FlatDerives plan e z k j) same last, omega (arith, high))))

  -- ---- a slot at the end of an alternative

  pub end_used : (r a s i j : ℕ) (ds : FlatTrees) → IsOfUse plan (of_rule r i j) → (at : IsSlot plan s r a (length (syms_at plan.rules r a))) → a < length (lines_at plan.rules r) →
      FlatDerivesFirst plan ds (syms_at plan.rules r a) i j → flat_count ds ≡ length (syms_at plan.rules r a) → IsOfUse plan (of_slot s i j)
  end_used r a s i j ds u at inside trees count =
      alt_of_use plan planned r s i j ds u (a, syms_at plan.rules r a, at, line_is plan r a inside) (r, a, syms_at plan.rules r a, subst (λ (z : ℕ). IsSlot plan s r a z) (sym count) at, line_is plan r a inside, trees)

  -- ---- the root

  -- where some subtree is useful, the span of the first rule over the whole text is
  pub root_used : HasUseful plan → IsOfUse plan (of_rule 0 0 (length plan.text))
  root_used h = let r = tree_root plan planned (useful_tree plan planned h) in (r.0, r.1, r.2, useful_of plan planned r.0 0 r.1 (length plan.text) (as_last 0 r.0 0 r.1 (length plan.text) root r.2 r.3))

  -- so it is where the set has a subtree
  pub root_listed : (es : List Entry) → AreWays plan es → 0 < length es → IsOfUse plan (of_rule 0 0 (length plan.text))
  root_listed es are h = let e = entry_at es 0 in root_used (sub_of_entry e, (are e).0 (Contains-get_or es 0 (entry_for 0 0 0 0) h))

  pub first_is_named : kind_at plan.rules 0 ≡ kind.Named
  first_is_named = (planned.named 0 (omega (arith, planned.first_named, planned.names_within))).1 planned.first_named
