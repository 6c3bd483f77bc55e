-- Lifting keeps the order of the trees of one symbol over one span.
use Rattle.std.proofs.Common.{◌≡◌, sym, ap, subst, ◌∙◌, ◌⊎◌, ◌+◌, ◌-◌, ◌<◌, ℕ, List, length, arith}
use mathlib.Core.Logic.{inl, inr}
use Rattle.ix_model.specs.declared.rules.Sym.{Sym}
use Rattle.ix_model.specs.Derivations.Trees.{width, widths}
use Rattle.ix_model.specs.Derivations.Order.{Before, AllBefore}
use Rattle.ix_model.specs.Expansion.Parts.{Parts}
use Rattle.ix_model.specs.Expansion.Numbered.{kind_at}
use Rattle.ix_model.specs.Expansion.FlatTrees.{FlatTree, flat_node, FlatTrees, no_flat, flats_and, flat_count, flat_width}
use Rattle.ix_model.specs.Expansion.FlatDerives.{FlatDerives, FlatDerivesFirst, IsLine}
use Rattle.ix_model.specs.Expansion.FlatOrder.{FlatBefore, FlatsBefore}
use Rattle.ix_model.specs.Expansion.Lift.{lift, lift_all}
use Rattle.ix_model.proofs.SlotPlaces.{same_line}
use Rattle.ix_closure_laws.proofs.FlatWidths.{width_is, widths_are}
use Rattle.ix_expansion_laws.proofs.Lifting.{lift_count}
use Rattle.ix_first_laws.proofs.Fits.{AllFit}
use Rattle.ix_first_laws.proofs.LiftHeights.{lift_measures, lifts_measure}
use Rattle.ix_first_laws.proofs.LiftOrder.{LineBefore, lifted_order}
use Rattle.ix_first_laws.proofs.NodeKinds.{from_named, from_helper}

at_numbers : (a c : ℕ) (X Y : Type 0) → (a ≡ c → X → Y) → (a < c) ⊎ (a ≡ c) × X → (a < c) ⊎ (a ≡ c) × Y
at_numbers a c X Y f (inl h) = inl h
at_numbers a c X Y f (inr h) = inr (h.0, f h.0 h.1)

at_heights : (m n m' n' : ℕ) (X Y : Type 0) → m' ≡ m → n' ≡ n → (X → Y) → (m < n) ⊎ (m ≡ n) × X → (m' < n') ⊎ (m' ≡ n') × Y
at_heights m n m' n' X Y p q f (inl h) = inl (omega (arith, p, q, h))
at_heights m n m' n' X Y p q f (inr h) = inr (omega (arith, p, q, h.0), f h.1)

module _ (plan : Parts) where
  at_pair : (ds es : FlatTrees) (d e : FlatTree) (k l j : ℕ) → k + flat_width d ≡ j → l + flat_width e ≡ j → width (lift plan.rules d) ≡ flat_width d → width (lift plan.rules e) ≡ flat_width e →
      (l ≡ k → FlatsBefore plan.rules ds es k → AllBefore (lift_all plan.rules ds) (lift_all plan.rules es) k) → (l ≡ k → FlatBefore plan.rules d e j → Before (lift plan.rules d) (lift plan.rules e) j) →
      FlatsBefore plan.rules (flats_and ds d) (flats_and es e) j → AllBefore (lift_all plan.rules (flats_and ds d)) (lift_all plan.rules (flats_and es e)) j
  at_pair ds es d e k l j wd we md me f g (inl h) = inl (omega (arith, h, md, me))
  at_pair ds es d e k l j wd we md me f g (inr (w, inl h)) =
      let a : j - flat_width d ≡ k = omega (arith, wd) in
      let b : k ≡ j - width (lift plan.rules d) = omega (arith, wd, md) in
      inr (omega (arith, w, md, me), inl (subst (λ (z : ℕ). AllBefore (lift_all plan.rules ds) (lift_all plan.rules es) z) b (f (omega (arith, wd, we, w)) (subst (λ (z : ℕ). FlatsBefore plan.rules ds es z) a h))))
  at_pair ds es d e k l j wd we md me f g (inr (w, inr h)) = inr (omega (arith, w, md, me), inr (ap (lift_all plan.rules) h.0, g (omega (arith, wd, we, w)) h.1))

  module _ (fits : AllFit plan) where
    mutual
      pub order_lifts : (d e : FlatTree) (x : Sym) (i j : ℕ) → FlatDerives plan d x i j → FlatDerives plan e x i j → FlatBefore plan.rules d e j → Before (lift plan.rules d) (lift plan.rules e) j
      order_lifts (flat_node r a ds) (flat_node q c es) x i j h k u =
          let e : q ≡ r = cc (h.1, k.1) in
          let k' : FlatDerives plan (flat_node r c es) x i j = subst (λ (z : ℕ). FlatDerives plan (flat_node z c es) x i j) e k in
          let hd = lifts_measure plan fits ds h.2 i j h.5 in
          let he = lifts_measure plan fits es k'.2 i j k'.5 in
          let w : widths (lift_all plan.rules ds) ≡ widths (lift_all plan.rules es) = omega (arith, hd.1, he.1, widths_are plan ds h.2 i j h.5, widths_are plan es k'.2 i j k'.5) in
          let same : a ≡ c → h.2 ≡ k'.2 = λ n. same_line plan r a h.2 k'.2 h.3 (subst (λ (z : ℕ). IsLine plan r z k'.2) (sym n) k'.3) in
          let counts : a ≡ c → flat_count ds ≡ flat_count es = λ n. h.4 ∙ ap length (same n) ∙ sym k'.4 in
          let rest : (a < c) ⊎ (a ≡ c) × FlatsBefore plan.rules ds es j → LineBefore a c (lift_all plan.rules ds) (lift_all plan.rules es) j =
          at_numbers a c _ _ (λ n v. flats_order ds es h.2 i j (counts n) h.5 (subst (λ z. FlatDerivesFirst plan es z i j) (sym (same n)) k'.5) v) in
          subst (λ (z : ℕ). Before (lift plan.rules (flat_node r a ds)) (lift plan.rules (flat_node z c es)) j) (sym e)
          (lifted_order (kind_at plan.rules r) r a c (lift_all plan.rules ds) (lift_all plan.rules es) j (fits r a ds x i j h) (fits r c es x i j k')
          (λ m. lift_count plan.rules ds ∙ counts m ∙ sym (lift_count plan.rules es)) w
          (λ n. at_heights _ _ _ _ _ _ hd.0 he.0 rest (from_named (kind_at plan.rules r) _ _ _ n u))
          (λ n. rest (from_helper (kind_at plan.rules r) _ _ _ n u)))
      order_lifts _ _ x i j h k u = absurd u

      pub flats_order : (ds es : FlatTrees) (syms : List Sym) (i j : ℕ) → flat_count ds ≡ flat_count es → FlatDerivesFirst plan ds syms i j → FlatDerivesFirst plan es syms i j →
          FlatsBefore plan.rules ds es j → AllBefore (lift_all plan.rules ds) (lift_all plan.rules es) j
      flats_order (flats_and ds d) (flats_and es e) syms i j c (k, x, h, at, hd) (l, y, g, to, ge) u =
          let n : flat_count ds ≡ flat_count es = omega (arith, c) in
          let same : y ≡ x = cc (n, at, to) in
          let ge' : FlatDerives plan e x l j = subst (λ z. FlatDerives plan e z l j) same ge in
          let md = (lift_measures plan fits d x k j hd).1 in
          let me = (lift_measures plan fits e x l j ge').1 in
          at_pair ds es d e k l j (width_is plan d x k j hd) (width_is plan e x l j ge') md me
          (λ q v. flats_order ds es syms i k n h (subst (λ (z : ℕ). FlatDerivesFirst plan es syms i z) q g) v)
          (λ q v. order_lifts d e x k j hd (subst (λ (z : ℕ). FlatDerives plan e x z j) q ge') v) u
      flats_order no_flat es syms i j c h g u = absurd u
      flats_order (flats_and ds d) no_flat syms i j c h g u = absurd u
