-- Laws of the closure: a fact is there exactly where its rule is called and trees derive its span, and what its numbers
-- name is there.
use Rattle.std.specs.Prelude.{◌≡◌, ◌⊎◌, ◌↔◌, ℕ, ◌+◌, ◌<◌, ◌≤◌, List, length, Option, None}
use Rattle.ix_model.specs.declared.grammar.Mark.{Mark}
use Rattle.ix_model.specs.declared.rules.Sym.{Sym}
use Rattle.ix_model.specs.declared.rules.Sym.TheVariants as sym
use Rattle.ix_model.specs.Expansion.Parts.{Parts}
use Rattle.ix_model.specs.Expansion.Planned.{IsPlanned}
use Rattle.ix_model.specs.Expansion.Slots.{IsSlot}
use Rattle.ix_model.specs.Expansion.FlatTrees.{FlatTree, FlatTrees, no_flat, flats_and, flat_count, flat_width}
use Rattle.ix_model.specs.Expansion.FlatDerives.{FlatDerives, FlatDerivesFirst, IsLine}
use Rattle.ix_model.specs.Expansion.SlotPlaces.{HasNext, IsLastSlot}
use Rattle.ix_model.specs.Closure.Closed.{Called, Desc, Edge, End, Part}

module _ (plan : Parts) where
  -- the slot's rule is called at l
  abbrev pub IsCalledFor : ℕ → ℕ → Type 0
  IsCalledFor s l = (r : ℕ) × (a : ℕ) × (dot : ℕ) × IsSlot plan s r a dot × Called plan r l

  -- the trees are those of the symbols before the slot's dot, over the span from l to p
  abbrev pub Covers : ℕ → FlatTrees → ℕ → ℕ → Type 0
  Covers s ds l p = (r : ℕ) × (a : ℕ) × (syms : List Sym) × IsSlot plan s r a (flat_count ds) × IsLine plan r a syms × FlatDerivesFirst plan ds syms l p

  -- the last of the trees is from k to r; or there is none, and the slot's alternative is empty
  abbrev pub IsLastFrom : FlatTrees → ℕ → ℕ → ℕ → ℕ → Type 0
  IsLastFrom no_flat s l k r = (k ≡ l) × (rule : ℕ) × IsLastSlot plan s rule
  IsLastFrom (flats_and ds d) s l k r = k + flat_width d ≡ r

-- each fact is there exactly where what it says holds
pub record FactsAreTrees (plan : Parts) : Type 0 where
  -- a rule is called at the start of the text, and where its cluster has a return edge
  pub called : (q p : ℕ) → Called plan q p ↔ (((q ≡ 0) × (p ≡ 0)) ⊎ ((s : ℕ) × (l : ℕ) × Edge plan q p s l))
  -- a return edge is a descriptor with its dot before the rule
  pub edges : (q p s l : ℕ) → Edge plan q p s l ↔ (Desc plan s l p × ((after : ℕ) × (mark : Option Mark) × HasNext plan s after (sym.Rule q mark)))
  -- a descriptor is a called rule and trees of the symbols before the dot
  pub descs : (s l p : ℕ) → Desc plan s l p ↔ (IsCalledFor plan s l × ((ds : FlatTrees) × Covers plan s ds l p))
  -- an end is a called rule and a tree of it
  pub ends : (q l e : ℕ) → End plan q l e ↔ (Called plan q l × ((d : FlatTree) × FlatDerives plan d (sym.Rule q None) l e))
  -- a binary subtree is a called rule and trees of the symbols before the dot, the last of them from the pivot
  pub parts : (s l k r : ℕ) → Part plan s l k r ↔ (IsCalledFor plan s l × ((ds : FlatTrees) × Covers plan s ds l r × IsLastFrom plan ds s l k r))

abbrev pub ClosedIsExact : Type 0
ClosedIsExact = (plan : Parts) → IsPlanned plan → FactsAreTrees plan

-- the rules and slots of all facts are there, and their positions lie in order within the text
pub record FactsAreWithin (plan : Parts) : Type 0 where
  pub called : (q p : ℕ) → Called plan q p → (q < length plan.rules.flats) × (p ≤ length plan.text)
  pub edges : (q p s l : ℕ) → Edge plan q p s l → (q < length plan.rules.flats) × (s < length plan.slots) × (l ≤ p) × (p ≤ length plan.text)
  pub descs : (s l p : ℕ) → Desc plan s l p → (s < length plan.slots) × (l ≤ p) × (p ≤ length plan.text)
  pub ends : (q l e : ℕ) → End plan q l e → (q < length plan.rules.flats) × (l ≤ e) × (e ≤ length plan.text)
  pub parts : (s l k r : ℕ) → Part plan s l k r → (s < length plan.slots) × (l ≤ k) × (k ≤ r) × (r ≤ length plan.text)

abbrev pub ClosedIsWithin : Type 0
ClosedIsWithin = (plan : Parts) → IsPlanned plan → FactsAreWithin plan
