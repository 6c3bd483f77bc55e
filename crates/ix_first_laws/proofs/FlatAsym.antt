-- No two trees of one symbol over one span are each before the other. So the first of them is one.
use Rattle.std.proofs.Common.{◌≡◌, refl, sym, ap, subst, ◌∙◌, ◌⊎◌, ◌+◌, ◌-◌, ◌<◌, ℕ, List, length, arith}
use mathlib.Core.Logic.{inl, inr}
use Rattle.ix_model.specs.declared.rules.Kind.{Kind}
use Rattle.ix_model.specs.declared.rules.Kind.TheVariants as kind
use Rattle.ix_model.specs.declared.rules.Sym.{Sym}
use Rattle.ix_model.specs.declared.rules.Rules.{Rules}
use Rattle.ix_model.specs.Expansion.Parts.{Parts}
use Rattle.ix_model.specs.Expansion.Numbered.{kind_at}
use Rattle.ix_model.specs.Expansion.FlatTrees.{FlatTree, flat_node, FlatTrees, no_flat, flats_and, flat_count, flat_width}
use Rattle.ix_model.specs.Expansion.FlatDerives.{FlatDerives, FlatDerivesFirst, IsLine}
use Rattle.ix_model.specs.Expansion.FlatHeights.{flat_heights}
use Rattle.ix_model.specs.Expansion.FlatOrder.{NodeBefore, FlatBefore, FlatsBefore}
use Rattle.ix_model.proofs.Decide.{Answered}
use Rattle.ix_model.proofs.SlotPlaces.{same_line}
use Rattle.ix_closure_laws.proofs.FlatWidths.{width_is}
use Rattle.ix_first_laws.specs.Bounded.{IsBestTree, IsBestTrees}
use Rattle.ix_first_laws.proofs.NodeKinds.{from_helper, from_named, is_named}

by_heights : (k l : Kind) (m n : ℕ) (X Y : Type 0) → k ≡ l → NodeBefore k m n X → NodeBefore l n m Y → (X → Y → ⊥) → ⊥
by_heights k l m n X Y e a b f = by_kind (is_named k)
  where
    named : (m < n) ⊎ (m ≡ n) × X → (n < m) ⊎ (n ≡ m) × Y → ⊥
    named (inl h) (inl q) = omega (arith, h, q)
    named (inl h) (inr q) = omega (arith, h, q.0)
    named (inr h) (inl q) = omega (arith, h.0, q)
    named (inr h) (inr q) = f h.1 q.1

    by_kind : Answered (k ≡ kind.Named) → ⊥
    by_kind (inl h) = named (from_named k m n X h a) (from_named l n m Y (sym e ∙ h) b)
    by_kind (inr h) = f (from_helper k m n X h a) (from_helper l n m Y (λ q. h (e ∙ q)) b)

by_number : (a c : ℕ) (X Y : Type 0) → (a ≡ c → X → Y → ⊥) → (a < c) ⊎ (a ≡ c) × X → (c < a) ⊎ (c ≡ a) × Y → ⊥
by_number a c X Y f (inl h) (inl k) = omega (arith, h, k)
by_number a c X Y f (inl h) (inr k) = omega (arith, h, k.0)
by_number a c X Y f (inr h) (inl k) = omega (arith, h.0, k)
by_number a c X Y f (inr h) (inr k) = f h.0 h.1 k.1

-- of a list and a last tree, and another list and last tree, from what is known of the parts
by_parts : (rules : Rules) (ds es : FlatTrees) (d e : FlatTree) (k l j : ℕ) → k + flat_width d ≡ j → l + flat_width e ≡ j →
    FlatsBefore rules (flats_and ds d) (flats_and es e) j → FlatsBefore rules (flats_and es e) (flats_and ds d) j →
    (l ≡ k → FlatsBefore rules ds es k → FlatsBefore rules es ds k → ⊥) → (l ≡ k → FlatBefore rules d e j → FlatBefore rules e d j → ⊥) → (FlatsBefore rules ds ds k → ⊥) → ⊥
by_parts rules ds es d e k l j wd we u v lists trees itself = both u v
  where
    both : FlatsBefore rules (flats_and ds d) (flats_and es e) j → FlatsBefore rules (flats_and es e) (flats_and ds d) j → ⊥
    both (inl h) (inl q) = omega (arith, h, q)
    both (inl h) (inr q) = omega (arith, h, q.0)
    both (inr h) (inl q) = omega (arith, h.0, q)
    both (inr (w, inl p)) (inr (z, inl q)) =
        let a : j - flat_width d ≡ k = omega (arith, wd) in
        let b : j - flat_width e ≡ k = omega (arith, wd, w) in
        lists (omega (arith, wd, we, w)) (subst (λ (n : ℕ). FlatsBefore rules ds es n) a p) (subst (λ (n : ℕ). FlatsBefore rules es ds n) b q)
    both (inr (w, inl p)) (inr (z, inr q)) =
        let a : j - flat_width d ≡ k = omega (arith, wd) in
        itself (subst (λ y. FlatsBefore rules ds y k) q.0 (subst (λ (n : ℕ). FlatsBefore rules ds es n) a p))
    both (inr (w, inr p)) (inr (z, inl q)) =
        let b : j - flat_width e ≡ k = omega (arith, wd, w) in
        itself (subst (λ y. FlatsBefore rules y ds k) (sym p.0) (subst (λ (n : ℕ). FlatsBefore rules es ds n) b q))
    both (inr (w, inr p)) (inr (z, inr q)) = trees (omega (arith, wd, we, w)) p.1 q.1

module _ (plan : Parts) where
  mutual
    pub flat_asym : (d e : FlatTree) (x : Sym) (i j : ℕ) → FlatDerives plan d x i j → FlatDerives plan e x i j → FlatBefore plan.rules d e j → FlatBefore plan.rules e d j → ⊥
    flat_asym (flat_node r a ds) (flat_node q c es) x i j h k u v =
        let e : r ≡ q = cc (h.1, k.1) in
        by_heights (kind_at plan.rules r) (kind_at plan.rules q) (flat_heights plan.rules ds) (flat_heights plan.rules es) _ _ (ap (kind_at plan.rules) e) u v
        (by_number a c _ _ (λ n. let z : h.2 ≡ k.2 = same_line plan r a h.2 k.2 h.3 (subst (λ (y : ℕ). IsLine plan y a k.2) (sym e) (subst (λ (y : ℕ). IsLine plan q y k.2) (sym n) k.3)) in
        flats_asym ds es h.2 i j (h.4 ∙ ap length z ∙ sym k.4) h.5 (subst (λ z. FlatDerivesFirst plan es z i j) (sym z) k.5)))
    flat_asym _ _ x i j h k u v = absurd u

    pub flats_asym : (ds es : FlatTrees) (syms : List Sym) (i j : ℕ) → flat_count ds ≡ flat_count es → FlatDerivesFirst plan ds syms i j → FlatDerivesFirst plan es syms i j →
        FlatsBefore plan.rules ds es j → FlatsBefore plan.rules es ds j → ⊥
    flats_asym (flats_and ds d) (flats_and es e) syms i j c (k, x, h, at, hd) (l, y, g, to, ge) u v =
        let n : flat_count ds ≡ flat_count es = omega (arith, c) in
        let same : y ≡ x = cc (n, at, to) in
        let ge' : FlatDerives plan e x l j = subst (λ z. FlatDerives plan e z l j) same ge in
        by_parts plan.rules ds es d e k l j (width_is plan d x k j hd) (width_is plan e x l j ge') u v
        (λ (q : l ≡ k). flats_asym ds es syms i k n h (subst (λ (z : ℕ). FlatDerivesFirst plan es syms i z) q g))
        (λ (q : l ≡ k). flat_asym d e x k j hd (subst (λ (z : ℕ). FlatDerives plan e x z j) q ge'))
        (λ b. flats_asym ds ds syms i k refl h h b b)
    flats_asym no_flat es syms i j c h g u v = absurd u
    flats_asym (flats_and ds d) no_flat syms i j c h g u v = absurd u

  -- the first tree within a bound is one
  pub one_tree : (b : ℕ) (x : Sym) (i j : ℕ) (d e : FlatTree) → IsBestTree plan b x i j d → IsBestTree plan b x i j e → d ≡ e
  one_tree b x i j d e y z = by_both (y.before e z.within) (z.before d y.within)
    where
      by_both : (e ≡ d) ⊎ FlatBefore plan.rules d e j → (d ≡ e) ⊎ FlatBefore plan.rules e d j → d ≡ e
      by_both (inl p) q = sym p
      by_both (inr p) (inl q) = q
      by_both (inr p) (inr q) = absurd (flat_asym d e x i j y.within.0 z.within.0 p q)

  -- the first trees within a bound are one list
  pub one_list : (b : ℕ) (syms : List Sym) (n i j : ℕ) (ds es : FlatTrees) → IsBestTrees plan b syms n i j ds → IsBestTrees plan b syms n i j es → ds ≡ es
  one_list b syms n i j ds es y z = by_both (y.before es z.within) (z.before ds y.within)
    where
      by_both : (es ≡ ds) ⊎ FlatsBefore plan.rules ds es j → (ds ≡ es) ⊎ FlatsBefore plan.rules es ds j → ds ≡ es
      by_both (inl p) q = sym p
      by_both (inr p) (inl q) = q
      by_both (inr p) (inr q) = absurd (flats_asym ds es syms i j (y.within.1 ∙ sym z.within.1) y.within.0 z.within.0 p q)
