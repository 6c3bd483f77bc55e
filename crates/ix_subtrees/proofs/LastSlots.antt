-- A slot at the end of an alternative, by the readers of a plan.
use Rattle.std.proofs.Common.{◌≡◌, refl, ap, sym, subst, ◌<◌, ℕ, length, None}
use Rattle.std.proofs.lemmas.Option.{get_or_from_slice_get}
use Rattle.ix_model.specs.declared.plan.SlotInfo.{SlotInfo}
use Rattle.ix_model.specs.Expansion.Parts.{Parts}
use Rattle.ix_model.specs.Expansion.Planned.{IsPlanned}
use Rattle.ix_model.specs.Expansion.Numbering.{slot}
use Rattle.ix_model.specs.Expansion.Slots.{IsSlot, info_at, sym_after}
use Rattle.ix_model.specs.Expansion.FlatDerives.{IsLine}
use Rattle.ix_model.proofs.SlotReaders.{last_reads, reads_last}
use Rattle.ix_subtrees.specs.Sets.{IsLastOf}

module _ (plan : Parts) where
  info_is : (s q a d : ℕ) → IsSlot plan s q a d → info_at plan s ≡ slot q a d
  info_is s q a d h = get_or_from_slice_get plan.slots s (slot q a d) (slot 0 0 0) h

  pub last_of_reads : (s q a : ℕ) → IsLastOf plan s q a → (s < length plan.slots) × ((info_at plan s).head ≡ q) × ((info_at plan s).alt ≡ a) × (sym_after plan s ≡ None)
  last_of_reads s q a h =
      let r = last_reads plan s q (a, h.0, h.1, h.2) in
      (r.0, r.1, ap (λ (i : SlotInfo). i.alt) (info_is s q a (length h.0) h.1), r.2)

  pub reads_last_of : IsPlanned plan → (s : ℕ) → s < length plan.slots → sym_after plan s ≡ None → IsLastOf plan s (info_at plan s).head (info_at plan s).alt
  reads_last_of p s h e =
      let q = (info_at plan s).head in
      let l = reads_last plan p s q (h, refl, e) in
      let same : l.0 ≡ (info_at plan s).alt = sym (ap (λ (i : SlotInfo). i.alt) (info_is s q l.0 (length l.1) l.2)) in
      (l.1, subst (λ (z : ℕ). IsSlot plan s q z (length l.1)) same l.2, subst (λ (z : ℕ). IsLine plan q z l.1) same l.3)

  -- the same by equal numbers
  pub reads_last_by : IsPlanned plan → (s q a : ℕ) → s < length plan.slots → sym_after plan s ≡ None → q ≡ (info_at plan s).head → a ≡ (info_at plan s).alt → IsLastOf plan s q a
  reads_last_by p s q a h e f g = subst (λ (z : ℕ). IsLastOf plan s z a) (sym f) (subst (λ (z : ℕ). IsLastOf plan s (info_at plan s).head z) (sym g) (reads_last_of p s h e))
