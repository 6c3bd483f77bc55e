-- The first tree within a bound as a function of numbers. Where the rules are not nested, or nothing is within the bound, it is a default.
use Rattle.std.proofs.Common.{ℕ, List}
use mathlib.Core.Logic.{inl, inr}
use Rattle.ix_model.specs.declared.rules.Sym.{Sym}
use Rattle.ix_model.specs.Expansion.Parts.{Parts}
use Rattle.ix_model.specs.Expansion.FlatTrees.{FlatTree, flat_insertion, FlatTrees, no_flat}
use Rattle.ix_model.specs.Expansion.FlatOrder.{FlatBefore, FlatsBefore}
use Rattle.ix_model.proofs.Decide.{Answered}
use Rattle.ix_tree_laws.proofs.Found.{Found}
use Rattle.ix_first_laws.specs.Bounded.{TreeWithin, TreesWithin, IsBestTree, IsBestTrees}
use Rattle.ix_first_laws.specs.Nested.{IsNested}
use Rattle.ix_first_laws.proofs.Symbols.{FoundTree}
use Rattle.ix_first_laws.proofs.FlatFound.{found_within}
use Rattle.ix_first_laws.proofs.FlatFoundAll.{FoundTrees, found_all_within}
use Rattle.ix_first_laws.proofs.NestedAnswered.{nested_answered}

-- what is found, or else x
abbrev found_or : (X : Type 0) (x : X) (P : X → Type 0) (Q : X → X → Type 0) → Found X P Q → X
found_or X x P Q (inl h) = h.0
found_or X x P Q (inr h) = x

module _ (plan : Parts) where
  abbrev tree_by : Answered (IsNested plan.rules) → ℕ → Sym → ℕ → ℕ → FlatTree
  tree_by (inl nested) b x i j = found_or FlatTree flat_insertion (TreeWithin plan b x i j) (λ d e. FlatBefore plan.rules d e j) (found_within plan nested b x i j)
  tree_by (inr h) b x i j = flat_insertion

  -- the first tree of the symbol over the span, no higher than b
  abbrev pub tree_of : ℕ → Sym → ℕ → ℕ → FlatTree
  tree_of b x i j = tree_by (nested_answered plan.rules) b x i j

  abbrev trees_by : Answered (IsNested plan.rules) → ℕ → List Sym → ℕ → ℕ → ℕ → FlatTrees
  trees_by (inl nested) b syms n i j = found_or FlatTrees no_flat (TreesWithin plan b syms n i j) (λ ds es. FlatsBefore plan.rules ds es j) (found_all_within plan nested b syms n i j)
  trees_by (inr h) b syms n i j = no_flat

  -- the first trees of the first n symbols over the span, no higher than b
  abbrev pub trees_of : ℕ → List Sym → ℕ → ℕ → ℕ → FlatTrees
  trees_of b syms n i j = trees_by (nested_answered plan.rules) b syms n i j

  module _ (nested : IsNested plan.rules) where
    -- where some tree is within the bound
    pub tree_is_best : (b : ℕ) (x : Sym) (i j : ℕ) (d : FlatTree) → TreeWithin plan b x i j d → IsBestTree plan b x i j (tree_of b x i j)
    tree_is_best b x i j d h = by_answer (nested_answered plan.rules)
      where
        found : (f : FoundTree plan b x i j) → IsBestTree plan b x i j (found_or FlatTree flat_insertion (TreeWithin plan b x i j) (λ d e. FlatBefore plan.rules d e j) f)
        found (inl y) = record { within = y.1.holds; before = y.1.before }
        found (inr none) = absurd (none d h)

        by_answer : (a : Answered (IsNested plan.rules)) → IsBestTree plan b x i j (tree_by a b x i j)
        by_answer (inl n) = found (found_within plan n b x i j)
        by_answer (inr q) = absurd (q nested)

    -- where some trees are within the bound
    pub trees_are_best : (b : ℕ) (syms : List Sym) (n i j : ℕ) (ds : FlatTrees) → TreesWithin plan b syms n i j ds → IsBestTrees plan b syms n i j (trees_of b syms n i j)
    trees_are_best b syms n i j ds h = by_answer (nested_answered plan.rules)
      where
        found : (m : IsNested plan.rules) (f : FoundTrees plan m b syms n i j) → IsBestTrees plan b syms n i j (found_or FlatTrees no_flat (TreesWithin plan b syms n i j) (λ ds es. FlatsBefore plan.rules ds es j) f)
        found m (inl y) = record { within = y.1.holds; before = y.1.before }
        found m (inr none) = absurd (none ds h)

        by_answer : (a : Answered (IsNested plan.rules)) → IsBestTrees plan b syms n i j (trees_by a b syms n i j)
        by_answer (inl m) = found m (found_all_within plan m b syms n i j)
        by_answer (inr q) = absurd (q nested)
