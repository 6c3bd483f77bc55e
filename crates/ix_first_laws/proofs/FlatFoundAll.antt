-- The first trees of the first symbols of an alternative over every span, among those of bounded height.
use Rattle.std.proofs.Common.{◌≡◌, refl, sym, subst, ◌∙◌, ◌+◌, ◌≤◌, ℕ, List, arith, slice_get, Some, None, Option}
use mathlib.Core.Logic.{inl, inr}
use Rattle.ix_model.specs.declared.rules.Sym.{Sym}
use Rattle.ix_model.specs.Expansion.Parts.{Parts}
use Rattle.ix_model.specs.Expansion.FlatTrees.{FlatTree, FlatTrees, no_flat, flats_and, flat_width}
use Rattle.ix_model.specs.Expansion.FlatDerives.{FlatDerivesFirst}
use Rattle.ix_model.specs.Expansion.FlatHeights.{flat_heights}
use Rattle.ix_model.specs.Expansion.FlatOrder.{FlatsBefore}
use Rattle.ix_closure_laws.proofs.FlatWidths.{width_is}
use Rattle.ix_tree_laws.proofs.Found.{Found}
use Rattle.ix_first_laws.specs.Bounded.{TreeWithin, TreesWithin}
use Rattle.ix_first_laws.specs.Nested.{IsNested}
use Rattle.ix_first_laws.proofs.Chains.{Chain, FoundChain, FoundNth, found_chain}
use Rattle.ix_first_laws.proofs.Symbols.{FoundTree}
use Rattle.ix_first_laws.proofs.FlatFound.{found_within}

module _ (plan : Parts) (nested : IsNested plan.rules) (b : ℕ) (syms : List Sym) where
  -- the tree is of symbol n
  abbrev OfNth : ℕ → ℕ → ℕ → FlatTree → Type 0
  OfNth n i k d = (x : Sym) × (slice_get syms n ≡ Some x) × TreeWithin plan b x i k d

  nth_wide : (n i k : ℕ) (d : FlatTree) → OfNth n i k d → i + flat_width d ≡ k
  nth_wide n i k d h = width_is plan d h.0 i k h.2.0

  found_nth : (n i k : ℕ) → FoundNth plan.rules OfNth n i k
  found_nth n i k = by_symbol (slice_get syms n) refl
    where
      kept : (x : Sym) → slice_get syms n ≡ Some x → FoundTree plan b x i k → FoundNth plan.rules OfNth n i k
      kept x at (inl (d, y)) = inl (d, record { holds = (x, at, y.holds); before = λ e h. let q : h.0 ≡ x = cc (at, h.1) in y.before e (subst (λ z. TreeWithin plan b z i k e) q h.2) })
      kept x at (inr none) = inr (λ e h. let q : h.0 ≡ x = cc (at, h.1) in none e (subst (λ z. TreeWithin plan b z i k e) q h.2))

      by_symbol : (y : Option Sym) → slice_get syms n ≡ y → FoundNth plan.rules OfNth n i k
      by_symbol None e = inr (λ d h. cc (sym e ∙ h.1))
      by_symbol (Some x) e = kept x e (found_within plan nested b x i k)

  to_chain : (ds : FlatTrees) (i j : ℕ) → FlatDerivesFirst plan ds syms i j → flat_heights plan.rules ds ≤ b → Chain plan.rules OfNth ds i j
  to_chain no_flat i j h high = h
  to_chain (flats_and ds d) i j (k, x, a, at, h) high = (k, to_chain ds i k a (omega (arith, high)), (x, at, (h, omega (arith, high))))

  from_chain : (ds : FlatTrees) (i j : ℕ) → Chain plan.rules OfNth ds i j → FlatDerivesFirst plan ds syms i j × (flat_heights plan.rules ds ≤ b)
  from_chain no_flat i j h = (h, omega arith)
  from_chain (flats_and ds d) i j (k, a, (x, at, h)) = let z = from_chain ds i k a in ((k, x, z.0, at, h.0), omega (arith, z.1, h.1))

  -- the first trees of the first n symbols over the span are found, or there are none
  abbrev pub FoundTrees : ℕ → ℕ → ℕ → Type 0
  FoundTrees n i j = Found FlatTrees (TreesWithin plan b syms n i j) (λ ds es. FlatsBefore plan.rules ds es j)

  pub found_all_within : (n i j : ℕ) → FoundTrees n i j
  found_all_within n i j = by_found (found_chain plan.rules OfNth nth_wide found_nth n i j)
    where
      by_found : FoundChain plan.rules OfNth n i j → FoundTrees n i j
      by_found (inl (ds, x)) = let z = from_chain ds i j x.holds.0 in inl (ds, record { holds = (z.0, x.holds.1, z.1); before = λ es h. x.before es (to_chain es i j h.0 h.2, h.1) })
      by_found (inr none) = inr (λ es h. none es (to_chain es i j h.0 h.2, h.1))
