-- The first sequence of trees over a span, where of each place the first tree over each span is found.
use Rattle.std.proofs.Common.{◌≡◌, refl, sym, subst, ◌⊎◌, ◌+◌, ◌-◌, ◌<◌, ◌≤◌, ℕ, zero, suc, arith}
use mathlib.Core.Logic.{inl, inr}
use Rattle.ix_model.specs.declared.rules.Rules.{Rules}
use Rattle.ix_model.specs.Expansion.FlatTrees.{FlatTree, FlatTrees, no_flat, flats_and, flat_count, flat_width, flat_widths}
use Rattle.ix_model.specs.Expansion.FlatOrder.{FlatBefore, FlatsBefore}
use Rattle.ix_model.proofs.Decide.{Answered, Least, least}
use Rattle.ix_tree_laws.proofs.Found.{Found, BothFound, NotBoth, found_both, PairBefore, pair_before}

module _ (rules : Rules) where
  -- a list and a last tree are the same as another list and last tree, or before them, where no other last tree starts sooner
  pub pair_first : (ds es : FlatTrees) (d e : FlatTree) (k l j : ℕ) → k + flat_width d ≡ j → l + flat_width e ≡ j → (l < k → ⊥) →
      (l ≡ k → (es ≡ ds) ⊎ FlatsBefore rules ds es k) → (l ≡ k → (e ≡ d) ⊎ FlatBefore rules d e j) →
      (flats_and es e ≡ flats_and ds d) ⊎ FlatsBefore rules (flats_and ds d) (flats_and es e) j
  pair_first ds es d e k l j wd we none p q = ends (pair_before FlatTrees FlatTree flat_width (FlatsBefore rules) (FlatBefore rules) ds es d e k l j wd we none p q)
    where
      ends : ((es ≡ ds) × (e ≡ d)) ⊎ PairBefore FlatTrees FlatTree flat_width (FlatsBefore rules) (FlatBefore rules) ds d es e j → (flats_and es e ≡ flats_and ds d) ⊎ FlatsBefore rules (flats_and ds d) (flats_and es e) j
      ends (inl (v, w)) = inl (cc (v, w))
      ends (inr h) = inr h

  -- P n i j d: the tree d may be number n, over the span from i to j
  module _ (P : ℕ → ℕ → ℕ → FlatTree → Type 0) where
    -- the trees stand over adjoining spans from i to j, each at its number
    abbrev pub Chain : FlatTrees → ℕ → ℕ → Type 0
    Chain no_flat i j = i ≡ j
    Chain (flats_and ds d) i j = (k : ℕ) × Chain ds i k × P (flat_count ds) k j d

    abbrev pub ChainOf : ℕ → ℕ → ℕ → FlatTrees → Type 0
    ChainOf n i j ds = Chain ds i j × (flat_count ds ≡ n)

    -- the first chain of n trees is found, or there is none
    abbrev pub FoundChain : ℕ → ℕ → ℕ → Type 0
    FoundChain n i j = Found FlatTrees (ChainOf n i j) (λ ds es. FlatsBefore rules ds es j)

    -- the first tree of number n is found, or there is none
    abbrev pub FoundNth : ℕ → ℕ → ℕ → Type 0
    FoundNth n i j = Found FlatTree (P n i j) (λ d e. FlatBefore rules d e j)

    no_trees : (i j : ℕ) → Answered (i ≡ j) → FoundChain 0 i j
    no_trees i j (inl e) = inl (no_flat, record { holds = (e, refl); before = others })
      where
        others : (y : FlatTrees) → ChainOf 0 i j y → (y ≡ no_flat) ⊎ FlatsBefore rules no_flat y j
        others no_flat h = inl refl
        others (flats_and ds d) h = absurd (omega (arith, h.1))
    no_trees i j (inr e) = inr none
      where
        none : (y : FlatTrees) → ChainOf 0 i j y → ⊥
        none no_flat h = e h.0
        none (flats_and ds d) h = omega (arith, h.1)

    module _ (wide : (n i j : ℕ) (d : FlatTree) → P n i j d → i + flat_width d ≡ j) (n i j : ℕ) where
      -- the last tree starts at k
      abbrev Ends : ℕ → Type 0
      Ends k = BothFound FlatTrees FlatTree (ChainOf n i k) (λ ds es. FlatsBefore rules ds es k) (P n k j) (λ d e. FlatBefore rules d e j)

      abbrev NoEnds : ℕ → Type 0
      NoEnds k = NotBoth FlatTrees FlatTree (ChainOf n i k) (λ ds es. FlatsBefore rules ds es k) (P n k j) (λ d e. FlatBefore rules d e j)

      one_more : Least Ends NoEnds (suc j) → FoundChain (suc n) i j
      one_more (inl (k, under, ((ds, x), (d, y)), less)) =
          inl (flats_and ds d, record { holds = ((k, x.holds.0, subst (λ (m : ℕ). P m k j d) (sym x.holds.1) y.holds), omega (arith, x.holds.1)); before = others })
        where
          others : (z : FlatTrees) → ChainOf (suc n) i j z → (z ≡ flats_and ds d) ⊎ FlatsBefore rules (flats_and ds d) z j
          others no_flat h = absurd (omega (arith, h.1))
          others (flats_and es e) ((l, a, c), count) =
              let m : flat_count es ≡ n = omega (arith, count) in
              let c' : P n l j e = subst (λ (z : ℕ). P z l j e) m c in
              pair_first ds es d e k l j (wide n k j d y.holds) (wide n l j e c') (λ h. less l h es e (a, m) c')
              (λ h. x.before es (subst (λ (z : ℕ). Chain es i z) h a, m))
              (λ h. y.before e (subst (λ (z : ℕ). P n z j e) h c'))
      one_more (inr never) = inr none
        where
          none : (z : FlatTrees) → ChainOf (suc n) i j z → ⊥
          none no_flat h = omega (arith, h.1)
          none (flats_and es e) ((l, a, c), count) =
              let m : flat_count es ≡ n = omega (arith, count) in
              let c' : P n l j e = subst (λ (z : ℕ). P z l j e) m c in
              never l (omega (arith, wide n l j e c')) es e (a, m) c'

    pub found_chain : ((n i j : ℕ) (d : FlatTree) → P n i j d → i + flat_width d ≡ j) → ((n i j : ℕ) → FoundNth n i j) → (n i j : ℕ) → FoundChain n i j
    found_chain wide each zero i j = no_trees i j (grind arith)
    found_chain wide each (suc n) i j = one_more wide n i j (least (Ends wide n i j) (NoEnds wide n i j) (suc j) (λ k h. found_both _ _ _ _ _ _ (found_chain wide each n i k) (each n k j)))

  -- ---- where the first tree ends

  -- the end of the first of these trees, which start at i
  abbrev pub first_end : FlatTrees → ℕ → ℕ
  first_end no_flat i = i
  first_end (flats_and no_flat d) i = i + flat_width d
  first_end (flats_and (flats_and ds e) d) i = first_end (flats_and ds e) i

  pub first_end_within : (ds : FlatTrees) (i : ℕ) → first_end ds i ≤ i + flat_widths ds
  first_end_within no_flat i = omega arith
  first_end_within (flats_and no_flat d) i = omega arith
  first_end_within (flats_and (flats_and ds e) d) i = omega (arith, first_end_within (flats_and ds e) i)

  -- trees whose first is shorter are before trees with no characters after the first
  pub shorter_first : (ds es : FlatTrees) (i j : ℕ) → flat_count ds ≡ flat_count es → i + flat_widths ds ≡ j → i + flat_widths es ≡ j → first_end ds i < j → first_end es i ≡ j → FlatsBefore rules ds es j
  shorter_first no_flat es i j c wd we a b = absurd (omega (arith, wd, a))
  shorter_first (flats_and ds d) no_flat i j c wd we a b = absurd (omega (arith, c))
  shorter_first (flats_and no_flat d) (flats_and es e) i j c wd we a b = absurd (omega (arith, wd, a))
  shorter_first (flats_and (flats_and ds d') d) (flats_and no_flat e) i j c wd we a b = absurd (omega (arith, c))
  shorter_first (flats_and (flats_and ds d') d) (flats_and (flats_and es e') e) i j c wd we a b =
      by_last (grind arith) (λ q. shorter_first (flats_and ds d') (flats_and es e') i (j - flat_width d) (omega (arith, c)) (omega (arith, wd)) (omega (arith, we, q, w)) (omega (arith, a, q)) (omega (arith, b, q)))
    where
      w : flat_width e ≡ 0
      w = omega (arith, first_end_within (flats_and es e') i, b, we)

      by_last : (flat_width d ≡ 0) ⊎ (0 < flat_width d) → (flat_width d ≡ 0 → FlatsBefore rules (flats_and ds d') (flats_and es e') (j - flat_width d)) → FlatsBefore rules (flats_and (flats_and ds d') d) (flats_and (flats_and es e') e) j
      by_last (inr h) f = inl (omega (arith, h, w, wd))
      by_last (inl h) f = inr (omega (arith, h, w), inl (f h))
