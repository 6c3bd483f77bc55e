-- What is true of all elements of lists that are put together.
use Rattle.std.proofs.Common.{List, [], ◌∷◌, ◌++◌}
use Rattle.std.specs.List.{AllByRecursion, flat_map}

module _ {X : Type 0} (P : X → Type 0) where
  pub all_append : (xs ys : List X) → AllByRecursion P xs → AllByRecursion P ys → AllByRecursion P (xs ++ ys)
  all_append [] ys h k = k
  all_append (x ∷ xs) ys h k = (h.0, all_append xs ys h.1 k)

  pub all_left : (xs ys : List X) → AllByRecursion P (xs ++ ys) → AllByRecursion P xs
  all_left [] ys h = tt
  all_left (x ∷ xs) ys h = (h.0, all_left xs ys h.1)

  pub all_right : (xs ys : List X) → AllByRecursion P (xs ++ ys) → AllByRecursion P ys
  all_right [] ys h = h
  all_right (x ∷ xs) ys h = all_right xs ys h.1

  -- what is true of two is true of both
  pub all_both : (Q : X → Type 0) (xs : List X) → AllByRecursion P xs → AllByRecursion Q xs → AllByRecursion (λ x. P x × Q x) xs
  all_both Q [] h k = tt
  all_both Q (x ∷ xs) h k = ((h.0, k.0), all_both Q xs h.1 k.1)

  pub all_weaker : (Q : X → Type 0) (f : (x : X) → P x → Q x) (xs : List X) → AllByRecursion P xs → AllByRecursion Q xs
  all_weaker Q f [] h = tt
  all_weaker Q f (x ∷ xs) h = (f x h.0, all_weaker Q f xs h.1)

module _ {X Y : Type 0} (P : Y → Type 0) (parts : X → List Y) where
  -- of all parts of all elements, and of all parts of each
  pub all_flat : (xs : List X) → AllByRecursion (λ x. AllByRecursion P (parts x)) xs → AllByRecursion P (flat_map parts xs)
  all_flat [] h = tt
  all_flat (x ∷ xs) h = all_append P (parts x) (flat_map parts xs) h.0 (all_flat xs h.1)

  pub all_parts : (xs : List X) → AllByRecursion P (flat_map parts xs) → AllByRecursion (λ x. AllByRecursion P (parts x)) xs
  all_parts [] h = tt
  all_parts (x ∷ xs) h = (all_left P (parts x) (flat_map parts xs) h, all_parts xs (all_right P (parts x) (flat_map parts xs) h))
