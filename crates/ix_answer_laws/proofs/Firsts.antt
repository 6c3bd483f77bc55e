-- Numbers in order, a number below another that something holds of, and lists that are the same.
use Rattle.std.proofs.Common.{◌≡◌, ◌≢◌, refl, ap, subst, ◌⊎◌, ℕ, zero, suc, ◌<◌, List, [], ◌∷◌, Option, None, Some, arith}
use mathlib.Core.Logic.{inl, inr}

-- of two numbers one is the lesser, or they are the same
pub in_order : (m n : ℕ) → (m < n) ⊎ ((m ≡ n) ⊎ (n < m))
in_order m n = grind arith

-- a property that can be decided holds of a number below n, or of none
pub some_below : (P : ℕ → Type 0) → ((m : ℕ) → P m ⊎ ¬ (P m)) → (n : ℕ) → ((m : ℕ) × (m < n) × P m) ⊎ ((m : ℕ) → m < n → ¬ (P m))
some_below P decide zero = inr (λ m l. absurd (omega (arith, l)))
some_below P decide (suc n) = by_last (decide n) (some_below P decide n)
  where
    by_last : P n ⊎ ¬ (P n) → ((m : ℕ) × (m < n) × P m) ⊎ ((m : ℕ) → m < n → ¬ (P m)) → ((m : ℕ) × (m < suc n) × P m) ⊎ ((m : ℕ) → m < suc n → ¬ (P m))
    by_last (inl p) rest = inl (n, omega arith, p)
    by_last (inr not_here) (inl (m, l, p)) = inl (m, omega (arith, l), p)
    by_last (inr not_here) (inr none) = inr (λ m l p. by_place m p (in_order m n) l)
      where
        by_place : (m : ℕ) → P m → (m < n) ⊎ ((m ≡ n) ⊎ (n < m)) → m < suc n → ⊥
        by_place m p (inl l) _ = none m l p
        by_place m p (inr (inl e)) _ = not_here (subst P e p)
        by_place m p (inr (inr l)) k = omega (arith, l, k)

-- two lists of numbers are the same or they differ
pub same_list : (xs ys : List ℕ) → (xs ≡ ys) ⊎ (xs ≢ ys)
same_list [] [] = inl refl
same_list [] (y ∷ ys) = inr (λ e. cc e)
same_list (x ∷ xs) [] = inr (λ e. cc e)
same_list (x ∷ xs) (y ∷ ys) = by_both (in_order x y) (same_list xs ys)
  where
    by_both : (x < y) ⊎ ((x ≡ y) ⊎ (y < x)) → (xs ≡ ys) ⊎ (xs ≢ ys) → (x ∷ xs ≡ y ∷ ys) ⊎ (x ∷ xs ≢ y ∷ ys)
    by_both (inr (inl p)) (inl q) = inl (cc (p, q))
    by_both p (inr q) = inr (λ e. q (cc e))
    by_both (inl l) (inl q) = inr (λ e. let p : x ≡ y = cc e in omega (arith, l, p))
    by_both (inr (inr l)) (inl q) = inr (λ e. let p : x ≡ y = cc e in omega (arith, l, p))

-- what stands at a place is this list, or it is not
pub same_at : (o : Option (List ℕ)) (x : List ℕ) → (o ≡ Some x) ⊎ (o ≢ Some x)
same_at None x = inr (λ e. cc e)
same_at (Some y) x = by_value (same_list y x)
  where
    by_value : (y ≡ x) ⊎ (y ≢ x) → (Some y ≡ Some x) ⊎ (Some y ≢ Some x)
    by_value (inl p) = inl (ap Some p)
    by_value (inr p) = inr (λ e. p (cc e))
