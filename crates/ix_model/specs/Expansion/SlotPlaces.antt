-- Slots by their dots: at the beginning of an alternative, at its end, and behind one more symbol.
use Rattle.std.specs.Prelude.{◌≡◌, ℕ, ◌+◌, List, length, Some, slice_get}
use Rattle.ix_model.specs.declared.rules.Sym.{Sym}
use Rattle.ix_model.specs.Expansion.Parts.{Parts}
use Rattle.ix_model.specs.Expansion.Slots.{IsSlot}
use Rattle.ix_model.specs.Expansion.FlatDerives.{IsLine}

module _ (plan : Parts) where
  -- the slot has its dot at the beginning of an alternative of the rule
  abbrev pub IsFirstSlot : ℕ → ℕ → Type 0
  IsFirstSlot s rule = (a : ℕ) × (syms : List Sym) × IsSlot plan s rule a 0 × IsLine plan rule a syms

  -- the slot has its dot at the end of an alternative of the rule
  abbrev pub IsLastSlot : ℕ → ℕ → Type 0
  IsLastSlot s rule = (a : ℕ) × (syms : List Sym) × IsSlot plan s rule a (length syms) × IsLine plan rule a syms

  -- behind the dot of slot s stands x, and slot `after` has its dot behind that x
  abbrev pub HasNext : ℕ → ℕ → Sym → Type 0
  HasNext s after x =
      (r : ℕ) × (a : ℕ) × (dot : ℕ) × (syms : List Sym) × IsSlot plan s r a dot × IsSlot plan after r a (dot + 1) × IsLine plan r a syms × (slice_get syms dot ≡ Some x)
