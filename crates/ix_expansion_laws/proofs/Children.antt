-- The trees of a line of one, two or three symbols.
use Rattle.std.proofs.Common.{◌≡◌, refl, sym, subst, ℕ, [], ◌∷◌, arith}
use Rattle.ix_model.specs.declared.rules.Sym.{Sym}
use Rattle.ix_model.specs.Expansion.Parts.{Parts}
use Rattle.ix_model.specs.Expansion.FlatTrees.{FlatTree, FlatTrees, no_flat, flats_and, flat_count}
use Rattle.ix_model.specs.Expansion.FlatDerives.{FlatDerives, FlatDerivesFirst}

-- P holds of each of the trees
abbrev pub AllOf : (FlatTree → Type 0) → FlatTrees → Type 0
AllOf P no_flat = Unit {0}
AllOf P (flats_and ds d) = AllOf P ds × P d

module _ (plan : Parts) (P : FlatTree → Type 0) where
  pub one_child : (ds : FlatTrees) → AllOf P ds → (y : Sym) (i j : ℕ) → flat_count ds ≡ 1 → FlatDerivesFirst plan ds (y ∷ []) i j → (d : FlatTree) × (ds ≡ flats_and no_flat d) × P d × FlatDerives plan d y i j
  one_child no_flat l y i j c h = absurd (omega (arith, c))
  one_child (flats_and no_flat d) l y i j c h =
      let q : h.1 ≡ y = cc h.3 in
      (d, refl, l.1, subst (λ (n : ℕ). FlatDerives plan d y n j) (sym h.2) (subst (λ z. FlatDerives plan d z h.0 j) q h.4))
  one_child (flats_and (flats_and ds e) d) l y i j c h = absurd (omega (arith, c))

  pub two_children : (ds : FlatTrees) → AllOf P ds → (y z : Sym) (i j : ℕ) → flat_count ds ≡ 2 → FlatDerivesFirst plan ds (y ∷ z ∷ []) i j →
      (d e : FlatTree) × (k : ℕ) × (ds ≡ flats_and (flats_and no_flat d) e) × P d × P e × FlatDerives plan d y i k × FlatDerives plan e z k j
  two_children no_flat l y z i j c h = absurd (omega (arith, c))
  two_children (flats_and no_flat d) l y z i j c h = absurd (omega (arith, c))
  two_children (flats_and (flats_and no_flat d) e) l y z i j c h =
      let q : h.1 ≡ z = cc h.3 in
      let p : h.2.1 ≡ y = cc h.2.3 in
      (d, e, h.0, refl, l.0.1, l.1, subst (λ (n : ℕ). FlatDerives plan d y n h.0) (sym h.2.2) (subst (λ v. FlatDerives plan d v h.2.0 h.0) p h.2.4), subst (λ v. FlatDerives plan e v h.0 j) q h.4)
  two_children (flats_and (flats_and (flats_and ds f) d) e) l y z i j c h = absurd (omega (arith, c))

  pub three_children : (ds : FlatTrees) → AllOf P ds → (y z w : Sym) (i j : ℕ) → flat_count ds ≡ 3 → FlatDerivesFirst plan ds (y ∷ z ∷ w ∷ []) i j →
      (d e f : FlatTree) × (k m : ℕ) × (ds ≡ flats_and (flats_and (flats_and no_flat d) e) f) × P d × P e × P f × FlatDerives plan d y i k × FlatDerives plan e z k m × FlatDerives plan f w m j
  three_children no_flat l y z w i j c h = absurd (omega (arith, c))
  three_children (flats_and no_flat d) l y z w i j c h = absurd (omega (arith, c))
  three_children (flats_and (flats_and no_flat d) e) l y z w i j c h = absurd (omega (arith, c))
  three_children (flats_and (flats_and (flats_and no_flat d) e) f) l y z w i j c h =
      let q : h.1 ≡ w = cc h.3 in
      let p : h.2.1 ≡ z = cc h.2.3 in
      let o : h.2.2.1 ≡ y = cc h.2.2.3 in (
        d,
        e,
        f,
        h.2.0,
        h.0,
        refl,
        l.0.0.1,
        l.0.1,
        l.1,
        subst (λ (n : ℕ). FlatDerives plan d y n h.2.0) (sym h.2.2.2) (subst (λ v. FlatDerives plan d v h.2.2.0 h.2.0) o h.2.2.4),
        subst (λ v. FlatDerives plan e v h.2.0 h.0) p h.2.4,
        subst (λ v. FlatDerives plan f v h.0 j) q h.4,
      )
  three_children (flats_and (flats_and (flats_and (flats_and ds g) d) e) f) l y z w i j c h = absurd (omega (arith, c))
