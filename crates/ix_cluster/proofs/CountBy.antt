-- How many elements of a list pass a test: std's sums, read for a count.
use Rattle.std.proofs.Common.{◌≡◌, ℕ, ◌+◌, ◌≤◌, Bool, true, false, cond, List, [], ◌∷◌, ◌++◌, count_by, Contains, ap, arith}
use Rattle.std.proofs.lemmas.List.Elements.{Contains-get_or}
use Rattle.std.proofs.lemmas.List.Sums.{sum_by-cons, sum_by-append, sum_by_push, sum_by-le}

module _ {X : Type 0} (p : X → Bool) where
  pub count_cons : (x : X) (xs : List X) → count_by p (x ∷ xs) ≡ cond (p x) 1 0 + count_by p xs
  count_cons x xs = sum_by-cons (λ y. cond (p y) 1 0) x xs

  pub count_append : (xs ys : List X) → count_by p (xs ++ ys) ≡ count_by p xs + count_by p ys
  count_append xs ys = sum_by-append (λ y. cond (p y) 1 0) xs ys

  pub count_push : (xs : List X) (x : X) → count_by p (xs ++ x ∷ []) ≡ count_by p xs + cond (p x) 1 0
  count_push xs x = sum_by_push (λ y. cond (p y) 1 0) xs x

  -- where none passes none is counted
  pub count_none : (xs : List X) → ((x : X) → Contains xs x → p x ≡ false) → count_by p xs ≡ 0
  count_none xs h = omega (arith, sum_by-le (λ y. cond (p y) 1 0) 0 xs (λ k d lt. omega (arith, ap {B = ℕ} (λ b. cond b 1 0) (h _ (Contains-get_or xs k d lt)))))

  -- a test that passes no more than another counts no more
  pub count_le : (q : X → Bool) → ((x : X) → q x ≡ true → p x ≡ true) → (xs : List X) → count_by q xs ≤ count_by p xs
  count_le q h [] = omega arith
  count_le q h (x ∷ xs) = grind (arith, sum_by-cons (λ y. cond (q y) 1 0) x xs, count_cons x xs, count_le q h xs, h x)
