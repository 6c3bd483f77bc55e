-- The trees of the symbols before a slot's dot: their heights, and the choices between them under a bound. It is this project's own.
use Rattle.std.specs.Prelude.{◌≡◌, ◌⊎◌, ℕ, ◌<◌, List, length}
use Rattle.ix_model.specs.declared.rules.Sym.{Sym}
use Rattle.ix_model.specs.declared.rules.Sym.TheVariants as sym
use Rattle.ix_model.specs.Expansion.Parts.{Parts}
use Rattle.ix_model.specs.Expansion.Numbered.{syms_at}
use Rattle.ix_model.specs.Expansion.Slots.{IsSlot, info_at}
use Rattle.ix_model.specs.Expansion.FlatTrees.{FlatTree, FlatTrees, flat_count}
use Rattle.ix_model.specs.Expansion.FlatDerives.{FlatDerives, FlatDerivesFirst}
use Rattle.ix_model.specs.Expansion.FlatHeights.{flat_height, flat_heights}
use Rattle.ix_first_laws.specs.Bounded.{TreeWithin, TreesWithin, IsBestTrees}
use Rattle.ix_first_laws.specs.Least.{IsLeastAlt, IsLeastPivot}
use Rattle.ix_height.specs.Spans.{of_slot, of_rule, IsOfUse}

module _ (plan : Parts) where
  -- the symbols of the slot's alternative
  abbrev pub slot_syms : ℕ → List Sym
  slot_syms s = syms_at plan.rules (info_at plan s).head (info_at plan s).alt

  -- one tree for each symbol before the slot's dot, from i to j
  abbrev pub AreBefore : ℕ → ℕ → ℕ → FlatTrees → Type 0
  AreBefore s i j ds = FlatDerivesFirst plan ds (slot_syms s) i j × (flat_count ds ≡ (info_at plan s).dot)

  -- the highest of such trees is h high
  abbrev pub HasHeightBefore : ℕ → ℕ → ℕ → ℕ → Type 0
  HasHeightBefore s i j h = (ds : FlatTrees) × AreBefore s i j ds × (flat_heights plan.rules ds ≡ h)

  -- a tree of the symbol is h high
  abbrev pub HasSymHeight : Sym → ℕ → ℕ → ℕ → Type 0
  HasSymHeight x i j h = (d : FlatTree) × FlatDerives plan d x i j × (flat_height plan.rules d ≡ h)

  -- such trees, no higher than b
  abbrev pub AreBeforeWithin : ℕ → ℕ → ℕ → ℕ → FlatTrees → Type 0
  AreBeforeWithin b s i j ds = TreesWithin plan b (slot_syms s) (info_at plan s).dot i j ds

  -- the first of them
  abbrev pub AreBestBefore : ℕ → ℕ → ℕ → ℕ → FlatTrees → Type 0
  AreBestBefore b s i j ds = IsBestTrees plan b (slot_syms s) (info_at plan s).dot i j ds

  -- the symbol after the slot's dot may start at k, under the bound b
  abbrev pub MayStart : ℕ → ℕ → Sym → ℕ → ℕ → ℕ → Type 0
  MayStart b s x i j k = (ds : FlatTrees) × (d : FlatTree) × AreBeforeWithin b s i k ds × TreeWithin plan b x k j d

  -- the least k where it may start
  abbrev pub IsLeastStart : ℕ → ℕ → Sym → ℕ → ℕ → ℕ → Type 0
  IsLeastStart b s x i j k = IsLeastPivot plan b (slot_syms s) (info_at plan s).dot x i j k

  -- the slot ends the first alternative of rule r that has trees over the span, no higher than b
  abbrev pub EndsLeastAlt : ℕ → ℕ → ℕ → ℕ → ℕ → Type 0
  EndsLeastAlt b r i j s = (a : ℕ) × IsLeastAlt plan b r i j a × IsSlot plan s r a (length (syms_at plan.rules r a))

  -- a useful subtree has the span of the symbol, if the symbol is a rule
  abbrev pub IsSymOfUse : Sym → ℕ → ℕ → Type 0
  IsSymOfUse (sym.Term n shown) i j = Unit {0}
  IsSymOfUse (sym.Rule r mark) i j = IsOfUse plan (of_rule r i j)
  IsSymOfUse (sym.Insert n) i j = Unit {0}

  -- a useful subtree has the span of the slot, if there is a symbol before its dot
  abbrev pub IsSlotOfUse : ℕ → ℕ → ℕ → Type 0
  IsSlotOfUse s i j = (s < length plan.slots) × (((info_at plan s).dot ≡ 0) ⊎ IsOfUse plan (of_slot s i j))
