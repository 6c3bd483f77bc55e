-- Some span has two ways exactly where the set lists two choices for it.
use Rattle.std.proofs.Common.{◌≡◌, ◌≢◌, subst, ◌∙◌, ◌⊎◌, ℕ, length}
use mathlib.Core.Logic.{inl, inr}
use Rattle.ix_model.specs.Expansion.Parts.{Parts}
use Rattle.ix_model.specs.Expansion.Planned.{IsPlanned}
use Rattle.ix_model.specs.Expansion.Slots.{IsSlot}
use Rattle.ix_model.specs.Expansion.FlatDerives.{IsLine}
use Rattle.ix_closure_laws.specs.TwoWays.{HasTwoWays}
use Rattle.ix_model.proofs.Slots.{one_slot}
use Rattle.ix_model.proofs.SlotPlaces.{same_slot, same_line}
use Rattle.ix_subtrees.specs.Entries.{entry_for}
use Rattle.ix_subtrees.specs.Sets.{SetLists, IsSetOf}
use Rattle.ix_subtrees.specs.TwoChoices.{HasTwo}

module _ (plan : Parts) (set : SetLists) (of : IsSetOf plan set) where
  pub two_ways_of_two : HasTwo set.ways ⊎ HasTwo set.alts → HasTwoWays plan
  two_ways_of_two (inl (s, l, r, h)) = inr (s, l, r, h.0, h.1, h.2, (of.ways (entry_for s l r h.0)).0 h.3, (of.ways (entry_for s l r h.1)).0 h.4)
  two_ways_of_two (inr (q, l, r, t)) =
      let x = (of.alts (entry_for q l r t.0)).0 t.3 in
      let y = (of.alts (entry_for q l r t.1)).0 t.4 in
      let differ : x.0 ≢ y.0 = λ e. t.2 (same_slot plan y.0 q t.0 (length x.2.0) q t.1 (length y.2.0) (subst (λ (z : ℕ). IsSlot plan z q t.0 (length x.2.0)) e x.2.1) y.2.1).1 in
      inl (q, l, r, x.0, y.0, x.1, y.1, differ, (t.0, x.2.0, x.2.1, x.2.2), (t.1, y.2.0, y.2.1, y.2.2), x.3, y.3)

  pub two_of_two_ways : IsPlanned plan → HasTwoWays plan → HasTwo set.ways ⊎ HasTwo set.alts
  two_of_two_ways planned (inr h) = inl (h.0, h.1, h.2, (h.3, h.4, h.5, (of.ways (entry_for h.0 h.1 h.2 h.3)).1 h.6, (of.ways (entry_for h.0 h.1 h.2 h.4)).1 h.7))
  two_of_two_ways planned (inl h) =
      inr (
        h.0,
        h.1,
        h.2,
        (
          h.8.0,
          h.9.0,
          λ e. h.7 (same e),
          (of.alts (entry_for h.0 h.1 h.2 h.8.0)).1 (h.3, h.5, (h.8.1, h.8.2, h.8.3), h.10),
          (of.alts (entry_for h.0 h.1 h.2 h.9.0)).1 (h.4, h.6, (h.9.1, h.9.2, h.9.3), h.11),
        ),
      )
    where
      -- the last slots of one alternative are one
      same : h.8.0 ≡ h.9.0 → h.3 ≡ h.4
      same e =
          let line : IsLine plan h.0 h.9.0 h.8.1 = subst (λ (z : ℕ). IsLine plan h.0 z h.8.1) e h.8.3 in
          one_slot plan planned h.3 h.4 h.0 h.9.0 (length h.9.1) (h.8.2 ∙ cc (e, same_line plan h.0 h.9.0 h.8.1 h.9.1 line h.9.3)) h.9.2
