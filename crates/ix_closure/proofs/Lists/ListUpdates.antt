-- A list with one element changed.
use Rattle.std.proofs.Common.{◌≡◌, ℕ, zero, suc, List, [], ◌∷◌, Some, slice_get, slice_set, refl, sym, ap, ◌∙◌, ◌⊎◌, inl, inr, arith}
use Rattle.std.proofs.lemmas.List.{set-get_or}
use Rattle.std.proofs.lemmas.Option.{get_or_from_slice_get}
use Rattle.ix_cluster.proofs.Elements.{get-set_other}

module _ {X : Type 0} where
  -- an element in its own place
  pub set_same : (xs : List X) (i : ℕ) (x : X) → slice_get xs i ≡ Some x → slice_set xs i x ≡ xs
  set_same xs i x e = ap (slice_set xs i) (sym (get_or_from_slice_get xs i x x e)) ∙ set-get_or xs i x

  pub set_other : (xs : List X) (i j : ℕ) (y z : X) → (j ≡ i → ⊥) → slice_get xs j ≡ Some z → slice_get (slice_set xs i y) j ≡ Some z
  set_other xs i j y z n e = get-set_other xs i j y (λ h. n (sym h)) ∙ e

  pub set_from : (xs : List X) (i j : ℕ) (y z : X) → slice_get (slice_set xs i y) j ≡ Some z → ((j ≡ i) × (y ≡ z)) ⊎ ((j ≡ i → ⊥) × (slice_get xs j ≡ Some z))
  set_from [] zero j y z e = absurd (cc)
  set_from [] (suc i) j y z e = absurd (cc)
  set_from (x ∷ xs) zero zero y z e = inl (refl, cc)
  set_from (x ∷ xs) zero (suc j) y z e = inr ((λ h. omega (arith, h)), e)
  set_from (x ∷ xs) (suc i) zero y z e = inr ((λ h. omega (arith, h)), e)
  set_from (x ∷ xs) (suc i) (suc j) y z e = elim (set_from xs i j y z e) [
    | inl h ↦ inl (ap suc h.0, h.1)
    | inr h ↦ inr ((λ w. h.0 (omega (arith, w))), h.1)
  ]
