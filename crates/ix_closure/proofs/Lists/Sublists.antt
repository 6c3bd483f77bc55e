-- A list of facts, each once, that are all in another list: fewer of them pass a test, and they make fewer pairs.
use Rattle.std.proofs.Common.{◌≡◌, ℕ, zero, suc, ◌+◌, ◌≤◌, Bool, true, false, cond, List, [], ◌∷◌, remove, count_by, Contains, Some, slice_get, refl, sym, ap, ◌∙◌, inl, inr, arith, true≢false}
use Rattle.std.specs.List.{IsDistinct}
use Rattle.std.proofs.lemmas.Map.Keys.{IsDistinct-tail}
use Rattle.ix_cluster.specs.declared.fact.Fact.{Fact}
use Rattle.ix_cluster.specs.Facts.{same_fact}
use Rattle.ix_cluster.specs.Handed.{meets, pair_count}
use Rattle.ix_cluster.proofs.CountBy.{count_cons}
use Rattle.ix_cluster.proofs.FactLemmas.{same_fact-refl}
use Rattle.ix_cluster.proofs.Handing.{meets-symm}
use Rattle.ix_cluster.proofs.Members.{first_has, rest_has}
use Rattle.ix_closure.proofs.Lists.ListCounts.{count_remove}
use Rattle.ix_closure.proofs.Lists.ListMembers.{place_in, taken_or_left}
use Rattle.ix_closure.proofs.Lists.OnceEach.{distinct_apart}

-- the pairs of a fact that is taken out are gone
pairs_remove : (xs : List Fact) (n : ℕ) (f : Fact) → slice_get xs n ≡ Some f → pair_count (remove xs n) + count_by (meets f) (remove xs n) ≡ pair_count xs
pairs_remove [] n f e = absurd (cc)
pairs_remove (x ∷ xs) zero f e = let same : x ≡ f = (cc) in omega (arith, ap (λ z. count_by (meets z) xs) same)
pairs_remove (x ∷ xs) (suc n) f e = omega (
  arith,
  pairs_remove xs n f e,
  count_remove (meets x) xs n f e,
  count_cons (meets f) x (remove xs n),
  ap {B = ℕ} (λ b. cond b 1 0) (meets-symm f x),
)

-- the first fact of a list with each once is none of the others
not_first : (x : Fact) (xs : List Fact) → IsDistinct same_fact (x ∷ xs) → (f : Fact) → Contains xs f → x ≡ f → ⊥
not_first x xs d f h same = true≢false (sym (same_fact-refl x) ∙ ap (same_fact x) same ∙ distinct_apart same_fact x xs d f h)

-- no more pass a test than pass the other in the list that has something of its own for each of them
module _ (p q : Fact → Bool) (g : Fact → Fact) (own : (a b : Fact) → p a ≡ true → p b ≡ true → g a ≡ g b → a ≡ b) where
  pub fewer_by : (xs ys : List Fact) → IsDistinct same_fact xs → ((f : Fact) → Contains xs f → p f ≡ true → Contains ys (g f) × (q (g f) ≡ true)) → count_by p xs ≤ count_by q ys
  fewer_by [] ys d each = omega arith
  fewer_by (x ∷ xs) ys d each = by (p x) refl (λ zs. fewer_by xs zs (IsDistinct-tail same_fact x xs d))
    where
      left : (n : ℕ) → slice_get ys n ≡ Some (g x) → p x ≡ true → (f : Fact) → Contains xs f → p f ≡ true → Contains (remove ys n) (g f)
      left n at e f h w = elim (taken_or_left ys n (g x) (g f) at (each f (rest_has x xs f h) w).0) [ inl same ↦ absurd (not_first x xs d f h (own x f e w same)) | inr there ↦ there ]

      by : (b : Bool) → p x ≡ b → ((zs : List Fact) → ((f : Fact) → Contains xs f → p f ≡ true → Contains zs (g f) × (q (g f) ≡ true)) → count_by p xs ≤ count_by q zs) → count_by p (x ∷ xs) ≤ count_by q ys
      by false e rest = omega (arith, count_cons p x xs, ap {B = ℕ} (λ b. cond b 1 0) e, rest ys (λ f h w. each f (rest_has x xs f h) w))
      by true e rest =
          let here = each x (first_has x xs) e in
          let place = place_in ys (g x) here.0 in
          omega (
            arith,
            count_cons p x xs,
            ap {B = ℕ} (λ b. cond b 1 0) e,
            rest (remove ys place.0) (λ f h w. (left place.0 place.1 e f h w, (each f (rest_has x xs f h) w).1)),
            count_remove q ys place.0 (g x) place.1,
            ap {B = ℕ} (λ b. cond b 1 0) here.1,
          )

-- no more pass a test than in a list that has all that pass it
pub fewer : (p : Fact → Bool) (xs ys : List Fact) → IsDistinct same_fact xs → ((f : Fact) → Contains xs f → p f ≡ true → Contains ys f) → count_by p xs ≤ count_by p ys
fewer p xs ys d within = fewer_by p p (λ f. f) (λ a b e w same. same) xs ys d (λ f h e. (within f h e, e))

-- no more pairs are made than by a list that has them all
pub fewer_pairs : (xs ys : List Fact) → IsDistinct same_fact xs → ((f : Fact) → Contains xs f → Contains ys f) → pair_count xs ≤ pair_count ys
fewer_pairs [] ys d within = omega arith
fewer_pairs (x ∷ xs) ys d within =
    let rest = IsDistinct-tail same_fact x xs d in
    let place = place_in ys x (within x (first_has x xs)) in
    let left : (f : Fact) → Contains xs f → Contains (remove ys place.0) f
    = λ f h. elim (taken_or_left ys place.0 x f place.1 (within f (rest_has x xs f h))) [ inl same ↦ absurd (not_first x xs d f h same) | inr there ↦ there ] in
    omega (
      arith,
      fewer (meets x) xs (remove ys place.0) rest (λ f h _. left f h),
      fewer_pairs xs (remove ys place.0) rest left,
      pairs_remove ys place.0 x place.1,
    )
