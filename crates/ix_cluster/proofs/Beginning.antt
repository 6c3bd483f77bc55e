-- The first slots of a rule, and the alternatives that begin with them.
use Rattle.std.proofs.Common.{◌≡◌, ℕ, Option, None, Contains, is_none, subst, ◌+◌, ◌<◌, true, List, length, map, Some, slice_get, slice_index_or, refl, sym, ap, ◌∙◌, arith}
use Rattle.std.specs.List.{range_with_len}
use Rattle.std.proofs.lemmas.List.FromFn.{map-range_with_len_more, get_or-map-range_with_len, length-map-range_with_len}
use Rattle.std.proofs.lemmas.List.Sums.{fold_push, prefix_len_is}
use Rattle.ix_model.specs.declared.grammar.Mark.{Mark}
use Rattle.ix_model.specs.declared.rules.Sym.TheVariants.{Rule}
use Rattle.std.proofs.lemmas.List.Elements.{Contains-get_or}
use Rattle.std.proofs.lemmas.Option.{get_or_from_slice_get, slice_get-get_or, slice_get_within}
use Rattle.ix_model.specs.declared.rules.Line.{Line}
use Rattle.ix_model.specs.declared.rules.Sym.{Sym}
use Rattle.ix_model.specs.Expansion.Parts.{Parts}
use Rattle.ix_model.specs.Expansion.Numbered.{lines_at}
use Rattle.ix_model.specs.Expansion.FlatDerives.{IsLine}
use Rattle.ix_model.specs.Expansion.SlotPlaces.{IsFirstSlot, IsLastSlot}
use Rattle.ix_model.proofs.Readers.{has_line, lines_is}
use Rattle.ix_model.proofs.SlotPlaces.{slot_for}
use Rattle.ix_model.proofs.SlotReaders.{first_reads, last_reads, reads_last}
use Rattle.ix_model.specs.Expansion.Planned.{IsPlanned}
use Rattle.ix_model.specs.Expansion.Numbering.{slot, is_before}
use Rattle.ix_model.specs.Expansion.Slots.{IsSlot, info_at, sym_after}
use Rattle.ix_model.proofs.Slots.{order, before_start, start_itself}
use Rattle.ix_cluster.specs.declared.fact.Fact.{Fact}
use Rattle.ix_cluster.specs.Firsts.{first_slot, firsts_of, is_at_end}
use Rattle.ix_cluster.specs.Steps.{after_first, after_firsts}

none_is : (x : Option Sym) → is_none x ≡ true → x ≡ None
none_is None e = refl
none_is (Some x) e = absurd (cc e)

module _ (plan : Parts) (planned : IsPlanned plan) where
  -- the first slot of an alternative, by its place
  pub first_is_slot : (r a s : ℕ) → IsSlot plan s r a 0 → first_slot plan r a ≡ s
  first_is_slot r a s at =
      let here = slice_get_within plan.slots s (slot r a 0) at in
      prefix_len_is (is_before r a) plan.slots s (slot r a 0) (omega (arith, here))
      (λ m k. before_start r a (slice_index_or plan.slots m (slot r a 0)) (order plan planned m s _ (slot r a 0) k (slice_get-get_or plan.slots m (slot r a 0) (omega (arith, k, here))) at))
      (λ _. ap (is_before r a) (get_or_from_slice_get plan.slots s (slot r a 0) (slot r a 0) at) ∙ start_itself r a)

  -- one more alternative begins
  pub next_begins : (r a s at : ℕ) (log before after : List Fact) → IsSlot plan s r a 0 → before ≡ after_firsts plan at (map (first_slot plan r) (range_with_len 0 a)) log → after ≡ after_first plan at before s → after ≡ after_firsts plan at (map (first_slot plan r) (range_with_len 0 (a + 1))) log
  next_begins r a s at log before after is e f =
      f ∙ ap (λ l. after_first plan at l s) e ∙ ap (after_first plan at (after_firsts plan at (map (first_slot plan r) (range_with_len 0 a)) log)) (sym (first_is_slot r a s is)) ∙
      sym (fold_push (after_first plan at) log (map (first_slot plan r) (range_with_len 0 a)) (first_slot plan r a)) ∙
      ap (λ xs. after_firsts plan at xs log) (sym (map-range_with_len_more (first_slot plan r) 0 a a (omega arith)))

  -- the rule that a symbol names is there
  pub rule_there : (s r : ℕ) (mark : Option Mark) → sym_after plan s ≡ Some (Rule r mark) → r < length plan.rules.flats
  rule_there s r mark e = planned.symbols (info_at plan s).head (info_at plan s).alt (info_at plan s).dot (Rule r mark) e

  -- the first slots of a rule are those with the dot at the beginning of one of its alternatives
  pub firsts_have : (r s : ℕ) → IsFirstSlot plan s r → Contains (firsts_of plan r) s
  firsts_have r s h =
      let count = length (lines_at plan.rules r) in
      let within : h.0 < count = slice_get_within (lines_at plan.rules r) h.0 h.3.1 (ap (λ (ls : List Line). slice_get ls h.0) (lines_is plan.rules r h.3.0 h.3.2) ∙ h.3.3) in
      subst (λ (n : ℕ). Contains (firsts_of plan r) n)
      (get_or-map-range_with_len (first_slot plan r) 0 count h.0 h.0 0 within (omega arith) ∙ first_is_slot r h.0 s h.2)
      (Contains-get_or (firsts_of plan r) h.0 0 (omega (arith, within, length-map-range_with_len (first_slot plan r) 0 count)))

  pub firsts_are : (r s : ℕ) → r < length plan.rules.flats → Contains (firsts_of plan r) s → IsFirstSlot plan s r
  firsts_are r s there h =
      let count = length (lines_at plan.rules r) in
      let within : h.0 < count = omega (arith, h.1, length-map-range_with_len (first_slot plan r) 0 count) in
      let found = has_line plan.rules r h.0 there within in
      let line : IsLine plan r h.0 found.line.syms = (found.flat, found.line, found.flat_at, found.line_at, refl) in
      let at = slot_for plan planned r h.0 0 found.line.syms line (omega arith) in
      let same : at.0 ≡ s = sym (first_is_slot r h.0 at.0 at.1) ∙ sym (get_or-map-range_with_len (first_slot plan r) 0 count h.0 h.0 s within (omega arith)) ∙ h.2 in
      subst (λ (n : ℕ). IsFirstSlot plan n r) same (h.0, found.line.syms, at.1, line)

  -- an alternative whose first slot has its dot at the end is empty
  pub ends_at_once : (r s : ℕ) → IsFirstSlot plan s r → is_at_end plan s ≡ true → IsLastSlot plan s r
  ends_at_once r s h e =
      let f = first_reads plan s r h in
      reads_last plan planned s r (f.0, f.1, none_is (sym_after plan s) e)

  pub at_end_of : (r s : ℕ) → IsLastSlot plan s r → is_at_end plan s ≡ true
  at_end_of r s h = ap is_none (last_reads plan s r h).2
