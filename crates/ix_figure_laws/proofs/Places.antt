-- Where the elements of a list stand.
use Rattle.std.proofs.Common.{◌≡◌, ℕ, zero, suc, ◌<◌, List, [], ◌∷◌, ◌++◌, map, remove, Some, slice_get, refl, ap, ◌∙◌, arith}
use Rattle.std.specs.List.{range_with_len}
use Rattle.std.specs.Prelude.{option_map}
use Rattle.std.proofs.lemmas.List.FromFn.{get_or-range_with_len, length-range_with_len}
use Rattle.std.proofs.lemmas.Option.{slice_get-map, slice_get-get_or}

module _ {X : Type 0} where
  -- the element stands somewhere in the list
  abbrev pub IsIn : List X → X → Type 0
  IsIn xs x = (n : ℕ) × (slice_get xs n ≡ Some x)

  pub one_further : (y : X) (xs : List X) (x : X) → IsIn xs x → IsIn (y ∷ xs) x
  one_further y xs x h = (suc h.0, h.1)

  -- what stands at another place than the one that is taken out is left
  pub left_over : (xs : List X) (m n : ℕ) (x : X) → slice_get xs n ≡ Some x → (m ≡ n → ⊥) → IsIn (remove xs m) x
  left_over [] m n x e apart = absurd (cc e)
  left_over (y ∷ ys) zero zero x e apart = absurd (apart refl)
  left_over (y ∷ ys) zero (suc n) x e apart = (n, e)
  left_over (y ∷ ys) (suc m) zero x e apart = (0, e)
  left_over (y ∷ ys) (suc m) (suc n) x e apart = one_further y (remove ys m) x (left_over ys m n x e (λ q. apart (ap suc q)))

  -- what stands in one of two lists stands in both together
  pub in_front : (xs ys : List X) (x : X) → IsIn xs x → IsIn (xs ++ ys) x
  in_front [] ys x (n, e) = absurd (cc e)
  in_front (y ∷ xs) ys x (zero, e) = (0, e)
  in_front (y ∷ xs) ys x (suc n, e) = one_further y (xs ++ ys) x (in_front xs ys x (n, e))

  pub in_rest : (xs ys : List X) (x : X) → IsIn ys x → IsIn (xs ++ ys) x
  in_rest [] ys x h = h
  in_rest (y ∷ xs) ys x h = one_further y (xs ++ ys) x (in_rest xs ys x h)

-- the numbers below n, and that all of them are
abbrev pub below : ℕ → List ℕ
below n = range_with_len 0 n

pub in_below : (n k : ℕ) → k < n → IsIn (below n) k
in_below n k h = (k, slice_get-get_or (below n) k 0 (omega (arith, h, length-range_with_len 0 n)) ∙ ap Some (get_or-range_with_len 0 n k 0 h ∙ omega arith))

module _ {X Y Z : Type 0} (f : X → Y → Z) where
  -- f of each pair of an element of the one list and an element of the other
  pub pairs : List X → List Y → List Z
  pairs [] ys = []
  pairs (x ∷ xs) ys = map (f x) ys ++ pairs xs ys

  pub in_pairs : (xs : List X) (ys : List Y) (x : X) (y : Y) → IsIn xs x → IsIn ys y → IsIn (pairs xs ys) (f x y)
  unfolding pairs
  in_pairs [] ys x y (n, e) h = absurd (cc e)
  in_pairs (z ∷ xs) ys x y (zero, e) h =
      let same : z ≡ x = cc e in
      in_front (map (f z) ys) (pairs xs ys) (f x y) (h.0, slice_get-map (f z) ys h.0 ∙ ap (option_map (f z)) h.1 ∙ ap (λ (w : X). Some (f w y)) same)
  in_pairs (z ∷ xs) ys x y (suc n, e) h = in_rest (map (f z) ys) (pairs xs ys) (f x y) (in_pairs xs ys x y (n, e) h)
