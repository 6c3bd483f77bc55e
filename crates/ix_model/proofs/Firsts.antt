-- The first of a list that something holds of: it is one, and where each can be decided it is found or there is none.
use Rattle.std.proofs.Common.{◌≡◌, refl, sym, ◌∙◌, subst, ◌⊎◌, ℕ, zero, suc, ◌<◌, List, [], ◌∷◌, ◌++◌, length, Some, slice_get, arith}
use Rattle.std.proofs.lemmas.Option.{slice_get_within}
use mathlib.Core.Logic.{inl, inr}
use Rattle.ix_model.specs.Firsts.{IsFirstOf}

one_of_three : (m n : ℕ) → (m < n) ⊎ ((m ≡ n) ⊎ (n < m))
one_of_three m n = grind arith

at_append : {X : Type 0} (xs ys : List X) (n : ℕ) → n < length xs → slice_get (xs ++ ys) n ≡ slice_get xs n
at_append [] ys n l = absurd (omega (arith, l))
at_append (x ∷ xs) ys zero l = refl
at_append (x ∷ xs) ys (suc n) l = at_append xs ys n (omega (arith, l))

module _ {X : Type 0} (P : ℕ → X → Type 0) where
  -- what stands in front is first where P holds of it
  pub at_front : (x : X) (xs : List X) → P 0 x → IsFirstOf P (x ∷ xs) x
  at_front x xs p = (0, (refl, p, λ m y l. absurd (omega (arith, l))))

  -- the same of a list that is said to begin with it
  pub in_front : (xs rest : List X) (x : X) → xs ≡ x ∷ rest → P 0 x → IsFirstOf P xs x
  in_front xs rest x e p = subst (λ ys. IsFirstOf P ys x) (sym e) (at_front x rest p)

  -- else the first is that of the rest
  pub behind : (x : X) (xs : List X) (y : X) → ¬ (P 0 x) → IsFirstOf (λ n z. P (suc n) z) xs y → IsFirstOf P (x ∷ xs) y
  behind x xs y not_here (n, (e, p, before)) = (suc n, (e, p, earlier))
    where
      earlier : (m : ℕ) (z : X) → m < suc n → slice_get (x ∷ xs) m ≡ Some z → ¬ (P m z)
      earlier zero z l f q = not_here (subst (λ w. P 0 w) (sym {b = z} (cc f)) q)
      earlier (suc m) z l f q = before m z (omega (arith, l)) f q

  -- the first stays the first where more comes behind
  pub first_then : (xs ys : List X) (x : X) → IsFirstOf P xs x → IsFirstOf P (xs ++ ys) x
  first_then xs ys x (n, (e, p, before)) =
      let l = slice_get_within xs n x e in
      (n, (at_append xs ys n l ∙ e, p, λ m y k f. before m y k (sym (at_append xs ys m (omega (arith, k, l))) ∙ f)))

  -- only one is the first
  pub first_is_one : (xs : List X) (x y : X) → IsFirstOf P xs x → IsFirstOf P xs y → x ≡ y
  first_is_one xs x y (n, (e, p, before)) (m, (f, q, earlier)) = by_place (one_of_three n m)
    where
      by_place : (n < m) ⊎ ((n ≡ m) ⊎ (m < n)) → x ≡ y
      by_place (inl l) = absurd (earlier n x l e p)
      by_place (inr (inl s)) = cc (e, f, s)
      by_place (inr (inr l)) = absurd (before m y l f q)

-- where P can be decided, it holds of a first one, or of none
pub first_or_none : {X : Type 0} (P : ℕ → X → Type 0) → ((n : ℕ) (x : X) → P n x ⊎ ¬ (P n x)) → (xs : List X) →
    ((x : X) × IsFirstOf P xs x) ⊎ ((n : ℕ) (x : X) → slice_get xs n ≡ Some x → ¬ (P n x))
first_or_none {X} P decide [] = inr (λ n x e. absurd (cc e))
first_or_none {X} P decide (x ∷ xs) = by_head (decide 0 x) (first_or_none (λ n y. P (suc n) y) (λ n y. decide (suc n) y) xs)
  where
    by_head : P 0 x ⊎ ¬ (P 0 x) → ((y : X) × IsFirstOf (λ n z. P (suc n) z) xs y) ⊎ ((n : ℕ) (y : X) → slice_get xs n ≡ Some y → ¬ (P (suc n) y)) →
        ((y : X) × IsFirstOf P (x ∷ xs) y) ⊎ ((n : ℕ) (y : X) → slice_get (x ∷ xs) n ≡ Some y → ¬ (P n y))
    by_head (inl p) rest = inl (x, at_front P x xs p)
    by_head (inr not_here) (inl (y, h)) = inl (y, behind P x xs y not_here h)
    by_head (inr not_here) (inr none) = inr nowhere
      where
        nowhere : (m : ℕ) (z : X) → slice_get (x ∷ xs) m ≡ Some z → ¬ (P m z)
        nowhere zero z f q = not_here (subst (λ w. P 0 w) (sym {b = z} (cc f)) q)
        nowhere (suc m) z f q = none m z f q
