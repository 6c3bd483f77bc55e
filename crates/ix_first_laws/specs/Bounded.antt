-- Trees over the numbered rules of bounded height, and the first of them. It is this project's own.
use Rattle.std.specs.Prelude.{◌≡◌, ◌⊎◌, ℕ, ◌≤◌, List, Option}
use Rattle.ix_model.specs.declared.grammar.Mark.{Mark}
use Rattle.ix_model.specs.declared.rules.Sym.{Sym}
use Rattle.ix_model.specs.declared.rules.Sym.TheVariants as sym
use Rattle.ix_model.specs.Expansion.Parts.{Parts}
use Rattle.ix_model.specs.Expansion.FlatTrees.{FlatTree, FlatTrees, flat_count}
use Rattle.ix_model.specs.Expansion.FlatDerives.{FlatDerives, FlatDerivesFirst}
use Rattle.ix_model.specs.Expansion.FlatHeights.{flat_height, flat_heights}
use Rattle.ix_model.specs.Expansion.FlatOrder.{FlatBefore, FlatsBefore}

module _ (plan : Parts) where
  -- the rule has a tree over the span, under some mark
  abbrev pub HasTree : ℕ → ℕ → ℕ → Type 0
  HasTree r i j = (d : FlatTree) × (mark : Option Mark) × FlatDerives plan d (sym.Rule r mark) i j

  -- a tree of the symbol over the span, no higher than b
  abbrev pub TreeWithin : ℕ → Sym → ℕ → ℕ → FlatTree → Type 0
  TreeWithin b x i j d = FlatDerives plan d x i j × (flat_height plan.rules d ≤ b)

  -- trees of the first n symbols over the span, no higher than b
  abbrev pub TreesWithin : ℕ → List Sym → ℕ → ℕ → ℕ → FlatTrees → Type 0
  TreesWithin b syms n i j ds = FlatDerivesFirst plan ds syms i j × (flat_count ds ≡ n) × (flat_heights plan.rules ds ≤ b)

  -- the first tree of the symbol over the span among those no higher than b
  pub record IsBestTree (b : ℕ) (x : Sym) (i j : ℕ) (d : FlatTree) : Type 0 where
    pub within : TreeWithin b x i j d
    pub before : (e : FlatTree) → TreeWithin b x i j e → (e ≡ d) ⊎ FlatBefore plan.rules d e j

  -- the first trees of the first n symbols over the span among those no higher than b
  pub record IsBestTrees (b : ℕ) (syms : List Sym) (n i j : ℕ) (ds : FlatTrees) : Type 0 where
    pub within : TreesWithin b syms n i j ds
    pub before : (es : FlatTrees) → TreesWithin b syms n i j es → (es ≡ ds) ⊎ FlatsBefore plan.rules ds es j
