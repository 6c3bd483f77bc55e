-- The least height of a rule over a span, and under a bound on the height its least alternative and the least start of a symbol.
-- They are the choices that make the first tree. It is this project's own.
use Rattle.std.specs.Prelude.{◌≡◌, ℕ, ◌<◌, ◌≤◌, List, length, None}
use Rattle.ix_model.specs.declared.rules.Sym.{Sym}
use Rattle.ix_model.specs.declared.rules.Sym.TheVariants as sym
use Rattle.ix_model.specs.Expansion.Parts.{Parts}
use Rattle.ix_model.specs.Expansion.Numbered.{lines_at, syms_at}
use Rattle.ix_model.specs.Expansion.FlatTrees.{FlatTree, FlatTrees}
use Rattle.ix_model.specs.Expansion.FlatDerives.{FlatDerives}
use Rattle.ix_model.specs.Expansion.FlatHeights.{flat_height}
use Rattle.ix_first_laws.specs.Bounded.{TreeWithin, TreesWithin}

module _ (plan : Parts) where
  -- the least height of the trees of rule r over the span
  pub record IsLeastHeight (r i j h : ℕ) : Type 0 where
    pub tree : FlatTree
    pub derived : FlatDerives plan tree (sym.Rule r None) i j
    pub height : flat_height plan.rules tree ≡ h
    pub least : (e : FlatTree) → FlatDerives plan e (sym.Rule r None) i j → h ≤ flat_height plan.rules e

  -- the trees of all symbols of alternative a of rule r, no higher than b
  abbrev pub AltWithin : ℕ → ℕ → ℕ → ℕ → ℕ → FlatTrees → Type 0
  AltWithin b r i j a ds = TreesWithin plan b (syms_at plan.rules r a) (length (syms_at plan.rules r a)) i j ds

  -- the first alternative of rule r that has trees over the span, no higher than b
  pub record IsLeastAlt (b r i j a : ℕ) : Type 0 where
    pub inside : a < length (lines_at plan.rules r)
    pub trees : FlatTrees
    pub fit : AltWithin b r i j a trees
    pub least : (c : ℕ) (es : FlatTrees) → c < a → AltWithin b r i j c es → ⊥

  -- the first k such that the first n symbols have trees from i to k and x has one from k to j, no higher than b
  pub record IsLeastPivot (b : ℕ) (syms : List Sym) (n : ℕ) (x : Sym) (i j k : ℕ) : Type 0 where
    pub trees : FlatTrees
    pub tree : FlatTree
    pub fit : TreesWithin plan b syms n i k trees
    pub fits : TreeWithin plan b x k j tree
    pub least : (l : ℕ) (es : FlatTrees) (e : FlatTree) → l < k → TreesWithin plan b syms n i l es → TreeWithin plan b x l j e → ⊥
