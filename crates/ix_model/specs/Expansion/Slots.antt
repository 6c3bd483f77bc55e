-- What a slot is: its place, and the symbol after its dot.
use Rattle.std.specs.Prelude.{◌≡◌, ℕ, Some, Option, slice_get, get_or}
use Rattle.ix_model.specs.declared.rules.Sym.{Sym}
use Rattle.ix_model.specs.declared.plan.SlotInfo.{SlotInfo}
use Rattle.ix_model.specs.Expansion.Parts.{Parts}
use Rattle.ix_model.specs.Expansion.Numbered.{syms_at}
use Rattle.ix_model.specs.Expansion.Numbering.{slot}

module _ (plan : Parts) where
  -- the slot with this number is of rule r, alternative a, with so many symbols before the dot
  abbrev pub IsSlot : ℕ → ℕ → ℕ → ℕ → Type 0
  IsSlot s r a dot = slice_get plan.slots s ≡ Some (slot r a dot)

  -- the place of the slot with this number; where there is none, a default that no reader answers
  abbrev pub info_at : ℕ → SlotInfo
  info_at s = get_or plan.slots s (slot 0 0 0)

  -- the symbol after the dot, where there is one
  abbrev pub sym_after : ℕ → Option Sym
  sym_after s = slice_get (syms_at plan.rules (info_at s).head (info_at s).alt) (info_at s).dot
