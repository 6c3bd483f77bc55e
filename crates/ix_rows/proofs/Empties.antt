-- The values that come out of the slots, in order.
use Rattle.std.proofs.Common.{◌≡◌, ℕ, zero, suc, ◌<◌, List, [], ◌∷◌, ◌++◌, map, length, take, Option, Some, refl, sym, ap, ◌∙◌, arith}
use mathlib.Core.Option.{some, some-ne-none, some-injective}
use lib.ListN.{get_elem?}

module _ {A : Type 0} where
  pub take_next : (l : List A) (n : ℕ) (a : A) → get_elem? l n ≡ some a → take (suc n) l ≡ take n l ++ a ∷ []
  take_next [] n a e = absurd (some-ne-none a (sym e))
  take_next (x ∷ xs) zero a e = λ k. some-injective x a e k ∷ []
  take_next (x ∷ xs) (suc n) a e = λ k. x ∷ take_next xs n a e k

  pub map_push : {B : Type 0} (f : A → B) (l : List A) (a : A) → map f (l ++ a ∷ []) ≡ map f l ++ f a ∷ []
  map_push f [] a = refl
  map_push f (x ∷ xs) a = λ k. f x ∷ map_push f xs a k

  pub at_some : (slots : List (Option A)) (xs : List A) (m : ℕ) (x : A) → slots ≡ map Some xs → get_elem? xs m ≡ some x → get_elem? slots m ≡ some (Some x)
  at_some slots xs m x is e = ap (λ (l : List (Option A)). get_elem? l m) is ∙ there xs m x e
    where
      there : (xs : List A) (m : ℕ) (x : A) → get_elem? xs m ≡ some x → get_elem? (map Some xs) m ≡ some (Some x)
      there [] m x e = absurd (some-ne-none x (sym e))
      there (y ∷ ys) zero x e = ap (λ (z : A). some (Some z)) (some-injective y x e)
      there (y ∷ ys) (suc m) x e = there ys m x e

  pub inside_of : (l : List A) (m : ℕ) (x : A) → get_elem? l m ≡ some x → m < length l
  inside_of [] m x e = absurd (some-ne-none x (sym e))
  inside_of (y ∷ ys) zero x e = omega arith
  inside_of (y ∷ ys) (suc m) x e = let h = inside_of ys m x e in omega arith
