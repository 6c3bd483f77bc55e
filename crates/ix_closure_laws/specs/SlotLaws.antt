-- A law of slots: what the readers of a plan say of a slot's dot.
use Rattle.std.specs.Prelude.{◌≡◌, ◌↔◌, ◌<◌, ◌+◌, ℕ, length, Some, None}
use Rattle.ix_model.specs.declared.rules.Sym.{Sym}
use Rattle.ix_model.specs.Expansion.Parts.{Parts}
use Rattle.ix_model.specs.Expansion.Planned.{IsPlanned}
use Rattle.ix_model.specs.Expansion.Slots.{info_at, sym_after}
use Rattle.ix_model.specs.Expansion.SlotPlaces.{IsFirstSlot, IsLastSlot, HasNext}

-- the numbers of a slot and the symbol after its dot tell where its dot stands
pub record SlotsAreRead (plan : Parts) : Type 0 where
  pub first : (s r : ℕ) → IsFirstSlot plan s r ↔ ((s < length plan.slots) × ((info_at plan s).head ≡ r) × ((info_at plan s).dot ≡ 0))
  pub last : (s r : ℕ) → IsLastSlot plan s r ↔ ((s < length plan.slots) × ((info_at plan s).head ≡ r) × (sym_after plan s ≡ None))
  pub next : (s after : ℕ) (x : Sym) → HasNext plan s after x ↔ ((s < length plan.slots) × (sym_after plan s ≡ Some x) × (after ≡ s + 1))

abbrev pub SlotsTellTheDot : Type 0
SlotsTellTheDot = (plan : Parts) → IsPlanned plan → SlotsAreRead plan
