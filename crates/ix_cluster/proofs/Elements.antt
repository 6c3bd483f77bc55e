-- Elements of a list by their places, where it grows and where one is written.
use Rattle.std.proofs.Common.{◌≡◌, ◌≢◌, ℕ, zero, suc, List, [], ◌∷◌, ◌++◌, length, Some, slice_get, slice_set, refl, ap, ◌⊎◌, inl, inr}

module _ {X : Type 0} where
  pub get-left : (xs ys : List X) (i : ℕ) (x : X) → slice_get xs i ≡ Some x → slice_get (xs ++ ys) i ≡ Some x
  get-left [] ys i x h = absurd (cc h)
  get-left (y ∷ xs) ys zero x h = h
  get-left (y ∷ xs) ys (suc i) x h = get-left xs ys i x h

  pub get-last : (xs : List X) (x : X) → slice_get (xs ++ x ∷ []) (length xs) ≡ Some x
  get-last [] x = refl
  get-last (y ∷ xs) x = get-last xs x

  -- an element of a longer list is one of the shorter, or the last
  pub get-push : (xs : List X) (y : X) (i : ℕ) (x : X) → slice_get (xs ++ y ∷ []) i ≡ Some x → (slice_get xs i ≡ Some x) ⊎ ((i ≡ length xs) × (y ≡ x))
  get-push [] y zero x h = inr (refl, cc h)
  get-push [] y (suc i) x h = absurd (cc h)
  get-push (z ∷ xs) y zero x h = inl h
  get-push (z ∷ xs) y (suc i) x h = elim (get-push xs y i x h) [ inl o ↦ inl o | inr n ↦ inr (ap suc n.0, n.1) ]

  pub get-set_same : (xs : List X) (i : ℕ) (x y : X) → slice_get xs i ≡ Some x → slice_get (slice_set xs i y) i ≡ Some y
  get-set_same [] i x y h = absurd (cc h)
  get-set_same (z ∷ xs) zero x y h = refl
  get-set_same (z ∷ xs) (suc i) x y h = get-set_same xs i x y h

  pub get-set_other : (xs : List X) (i j : ℕ) (y : X) → i ≢ j → slice_get (slice_set xs i y) j ≡ slice_get xs j
  get-set_other [] i j y apart = refl
  get-set_other (z ∷ xs) zero zero y apart = absurd (apart refl)
  get-set_other (z ∷ xs) zero (suc j) y apart = refl
  get-set_other (z ∷ xs) (suc i) zero y apart = refl
  get-set_other (z ∷ xs) (suc i) (suc j) y apart = get-set_other xs i j y (λ e. apart (ap suc e))
