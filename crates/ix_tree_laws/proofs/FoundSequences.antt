-- The first trees of a sequence: the last of its terms starts as soon as it can, then both parts are first.
use Rattle.std.proofs.Common.{◌≡◌, refl, sym, subst, ◌⊎◌, ◌≤◌, ℕ, zero, suc, List, arith, slice_get, Some, None, Option}
use mathlib.Core.Logic.{inl, inr}
use Rattle.ix_model.specs.declared.grammar.Grammar.{Grammar}
use Rattle.ix_model.specs.declared.grammar.Term.{Term}
use Rattle.ix_model.specs.Derivations.Trees.{Tree, Trees, no_tree, and, tree_count, width}
use Rattle.ix_model.specs.Derivations.Heights.{height, heights}
use Rattle.ix_model.specs.Derivations.Derives.{Derives, DerivesFirst}
use Rattle.ix_model.specs.Derivations.Order.{Before, AllBefore}
use Rattle.ix_tree_laws.proofs.Widths.{derived_width}
use Rattle.ix_model.proofs.Decide.{Answered, Least, least}
use Rattle.ix_tree_laws.proofs.Found.{BothFound, NotBoth, found_both, PairBefore, pair_before, Within, FoundTree, AllWithin, FoundAll}

module _ (g : Grammar) (s : List ℕ) (b : ℕ) (terms : List Term) where
  no_terms : (i j : ℕ) → Answered (i ≡ j) → FoundAll g s b terms 0 i j
  no_terms i j (inl e) = inl (no_tree, record { holds = (e, refl, omega arith); before = others })
    where
      others : (z : Trees) → AllWithin g s b terms 0 i j z → (z ≡ no_tree) ⊎ AllBefore no_tree z j
      others no_tree h = inl refl
      others (and ds d) h = absurd (omega (arith, h.1))
  no_terms i j (inr e) = inr none
    where
      none : (z : Trees) → AllWithin g s b terms 0 i j z → ⊥
      none no_tree h = e h.0
      none (and ds d) h = omega (arith, h.1)

  -- there is no term n
  no_more : (n i j : ℕ) → slice_get terms n ≡ None → FoundAll g s b terms (suc n) i j
  no_more n i j e = inr none
    where
      none : (z : Trees) → AllWithin g s b terms (suc n) i j z → ⊥
      none no_tree h = omega (arith, h.1)
      none (and ds d) h =
          let c : tree_count ds ≡ n = omega (arith, h.1) in
          cc (c, e, h.0.3)

  -- t is the term n, after the n terms before it
  module _ (n : ℕ) (t : Term) (at : slice_get terms n ≡ Some t) (i j : ℕ) where
    -- the last term starts at k
    abbrev Ends : ℕ → Type 0
    Ends k = BothFound Trees Tree (AllWithin g s b terms n i k) (λ ds es. AllBefore ds es k) (Within g s b t k j) (λ d e. Before d e j)

    abbrev NoEnds : ℕ → Type 0
    NoEnds k = NotBoth Trees Tree (AllWithin g s b terms n i k) (λ ds es. AllBefore ds es k) (Within g s b t k j) (λ d e. Before d e j)

    one_more : Least Ends NoEnds (suc j) → FoundAll g s b terms (suc n) i j
    one_more (inl (k, under, ((ds, x), (d, y)), less)) =
        inl (
          and ds d,
          record {
            holds = ((k, t, x.holds.0, subst (λ m. slice_get terms m ≡ Some t) (sym x.holds.1) at, y.holds.0), omega (arith, x.holds.1), omega (arith, x.holds.2, y.holds.1));
            before = others;
          },
        )
      where
        others : (z : Trees) → AllWithin g s b terms (suc n) i j z → (z ≡ and ds d) ⊎ AllBefore (and ds d) z j
        others no_tree h = absurd (omega (arith, h.1))
        others (and es e) ((l, t', a, at', c), count, high) =
            let m : tree_count es ≡ n = omega (arith, count) in
            let q : t' ≡ t = cc (m, at, at') in
            let c' : Derives g s e t l j = subst (λ z. Derives g s e z l j) q c in
            let ha : heights es ≤ b = omega (arith, high) in
            let hc : height e ≤ b = omega (arith, high) in
            ends (pair_before Trees Tree width AllBefore Before ds es d e k l j (derived_width g s d t k j y.holds.0) (derived_width g s e t l j c') (λ h. less l h es e (a, m, ha) (c', hc))
            (λ h. x.before es (subst (λ (z : ℕ). DerivesFirst g s es terms i z) h a, m, ha))
            (λ h. y.before e (subst (λ (z : ℕ). Derives g s e t z j) h c', hc)))
          where
            ends : ((es ≡ ds) × (e ≡ d)) ⊎ PairBefore Trees Tree width AllBefore Before ds d es e j → (and es e ≡ and ds d) ⊎ AllBefore (and ds d) (and es e) j
            ends (inl (v, w)) = inl (cc (v, w))
            ends (inr h) = inr h
    one_more (inr never) = inr none
      where
        none : (z : Trees) → AllWithin g s b terms (suc n) i j z → ⊥
        none no_tree h = omega (arith, h.1)
        none (and es e) ((l, t', a, at', c), count, high) =
            let m : tree_count es ≡ n = omega (arith, count) in
            let q : t' ≡ t = cc (m, at, at') in
            let c' : Derives g s e t l j = subst (λ z. Derives g s e z l j) q c in
            never l (omega (arith, derived_width g s e t l j c')) es e (a, m, omega (arith, high)) (c', omega (arith, high))

  -- where the first tree of each term is found, so are the first trees of the first n terms
  pub found_all : ((n : ℕ) (t : Term) → slice_get terms n ≡ Some t → (i j : ℕ) → FoundTree g s b t i j) → (n i j : ℕ) → FoundAll g s b terms n i j
  found_all each zero i j = no_terms i j (grind arith)
  found_all each (suc n) i j = by_term (slice_get terms n) refl (λ k. found_all each n i k)
    where
      by_term : (x : Option Term) → slice_get terms n ≡ x → ((k : ℕ) → FoundAll g s b terms n i k) → FoundAll g s b terms (suc n) i j
      by_term None e before = no_more n i j e
      by_term (Some t) e before = one_more n t e i j (least (Ends n t e i j) (NoEnds n t e i j) (suc j) (λ k h. found_both _ _ _ _ _ _ (before k) (each n t e k j)))
