-- How many elements a list has, and how many of them pass a test.
use Rattle.std.proofs.Common.{◌≡◌, ℕ, ◌+◌, ◌*◌, ◌≤◌, Bool, true, cond, List, [], ◌∷◌, length, remove, count_by, Contains, Option, Some, None, slice_get, slice_set, refl, sym, ap, subst, arith}
use Rattle.std.specs.List.{sum_by, filter_map, cons_option, flat_map}
use Rattle.std.proofs.lemmas.List.Concat.{length-flat_map}
use Rattle.std.proofs.lemmas.List.Recursion.{is_count_by}
use Rattle.std.proofs.lemmas.List.Sums.{sum_by-remove, sum_by-set, sum_by-le, get_or-le-sum_by}
use Rattle.std.proofs.lemmas.Option.{slice_get_within, get_or_from_slice_get}
use Rattle.ix_closure.proofs.Lists.ListMembers.{all_have}

module _ {X : Type 0} (p : X → Bool) where
  -- an element that is taken out is counted no more
  pub count_remove : (xs : List X) (n : ℕ) (x : X) → slice_get xs n ≡ Some x → count_by p (remove xs n) + cond (p x) 1 0 ≡ count_by p xs
  count_remove xs n x e =
      omega (arith, sum_by-remove (λ y. cond (p y) 1 0) xs n x (slice_get_within xs n x e), ap {B = ℕ} (λ y. cond (p y) 1 0) (get_or_from_slice_get xs n x x e))

  -- what passes is counted
  pub count_some : (xs : List X) (x : X) → p x ≡ true → Contains xs x → 1 ≤ count_by p xs
  count_some xs x e h = omega (arith, get_or-le-sum_by (λ y. cond (p y) 1 0) xs h.0 x h.1, ap {B = ℕ} (λ y. cond (p y) 1 0) h.2, ap {B = ℕ} (λ b. cond b 1 0) e)

module _ {X : Type 0} where
  -- a list is as long as the count of all its elements
  pub count_all : (xs : List X) → length xs ≡ count_by (λ _. true) xs
  count_all xs = is_count_by length (λ _. true) refl (λ x xs. omega arith) xs

  -- a sum over a list with one element changed
  pub sum_set : (f : X → ℕ) (xs : List X) (n : ℕ) (old new : X) → slice_get xs n ≡ Some old → sum_by f (slice_set xs n new) + f old ≡ sum_by f xs + f new
  sum_set f xs n old new e = omega (arith, sum_by-set f xs n new new (slice_get_within xs n old e), ap f (get_or_from_slice_get xs n old new e))

module _ {X Y : Type 0} where
  -- what is picked of a list is no longer than the list
  pub length_filter_map : (f : X → Option Y) (xs : List X) → length (filter_map f xs) ≤ length xs
  length_filter_map f [] = omega arith
  length_filter_map f (x ∷ xs) = by (f x) (length_filter_map f xs)
    where
      by : (o : Option Y) → length (filter_map f xs) ≤ length xs → length (cons_option o (filter_map f xs)) ≤ length (x ∷ xs)
      by None h = omega (arith, h)
      by (Some y) h = omega (arith, h)

  -- lists of at most m elements for each
  pub length_flat : (f : X → List Y) (m : ℕ) (xs : List X) → ((x : X) → Contains xs x → length (f x) ≤ m) → length (flat_map f xs) ≤ length xs * m
  length_flat f m xs few = subst (λ n. n ≤ length xs * m) (sym (length-flat_map f xs)) (sum_by-le (λ x. length (f x)) m xs (all_have (λ x. length (f x) ≤ m) xs few))
