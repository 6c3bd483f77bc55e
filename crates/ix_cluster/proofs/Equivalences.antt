-- A test that passes equal elements and no others is an equivalence.
use Rattle.std.proofs.Common.{◌≡◌, Bool, true, false, refl, sym, ap, ◌∙◌, subst, ◌⊎◌, inl, inr}
use Rattle.std.specs.Cmp.{IsEquivalence}
use Rattle.std.proofs.lemmas.Bool.{cases_Bool}

module _ {X : Type 0} (same : X → X → Bool) (exact : (a b : X) → same a b ≡ true → a ≡ b) (itself : (a : X) → same a a ≡ true) where
  symm : (a b : X) → same a b ≡ same b a
  symm a b = by (cases_Bool (same a b)) (cases_Bool (same b a))
    where
      by : (same a b ≡ true) ⊎ (same a b ≡ false) → (same b a ≡ true) ⊎ (same b a ≡ false) → same a b ≡ same b a
      by (inl e) other = subst (λ z. same a z ≡ same z a) (exact a b e) refl
      by (inr e) (inl o) = subst (λ z. same z b ≡ same b z) (exact b a o) refl
      by (inr e) (inr o) = e ∙ sym o

  pub equivalence : IsEquivalence same
  equivalence = record { refl = itself; symm = symm; congr = λ x y z e. ap (λ w. same w z) (exact x y e) }
