-- Lists in which each element stands once.
use Rattle.std.proofs.Common.{◌≡◌, Bool, true, false, List, [], ◌∷◌, map, Contains, Option, Some, None, refl, sym, ◌∙◌, subst, true≢false}
use Rattle.std.specs.List.{IsDistinct, filter_map, cons_option}
use Rattle.std.proofs.lemmas.List.Elements.{All-from_recursion, All-contains}
use Rattle.std.proofs.lemmas.Map.Keys.{IsDistinct-head, IsDistinct-tail}
use Rattle.ix_cluster.proofs.Members.{rest_has, first_has}
use Rattle.ix_closure.proofs.Lists.ListMembers.{map_from, filter_from}

module _ {X : Type 0} where
  -- no element stands there twice
  unfoldable pub IsOnceEach : List X → Type 0
  IsOnceEach [] = Unit {0}
  IsOnceEach (x ∷ xs) = (Contains xs x → ⊥) × IsOnceEach xs

module _ {X : Type 0} (e : X → X → Bool) where
  -- a test by which the elements differ tells the first from those behind it
  pub distinct_apart : (x : X) (xs : List X) → IsDistinct e (x ∷ xs) → (y : X) → Contains xs y → e x y ≡ false
  distinct_apart x xs d y h = All-contains (λ y. e x y ≡ false) xs y (All-from_recursion (λ y. e x y ≡ false) xs (IsDistinct-head e x xs d)) h

  -- so each stands once, where the test finds each element itself
  pub once_distinct : ((x : X) → e x x ≡ true) → (xs : List X) → IsDistinct e xs → IsOnceEach xs
  unfolding IsOnceEach
  once_distinct same [] d = tt
  once_distinct same (x ∷ xs) d = ((λ c. true≢false (sym (same x) ∙ distinct_apart x xs d x c)), once_distinct same xs (IsDistinct-tail e x xs d))

module _ {X Y : Type 0} where
  -- a map that tells the elements apart keeps it
  pub once_map : (f : X → Y) (xs : List X) → ((a b : X) → Contains xs a → Contains xs b → f a ≡ f b → a ≡ b) → IsOnceEach xs → IsOnceEach (map f xs)
  unfolding IsOnceEach
  once_map f [] apart h = tt
  once_map f (x ∷ xs) apart h = (
    (λ c. let p = map_from f xs (f x) c in h.0 (subst (Contains xs) (apart p.0 x (rest_has x xs p.0 p.1) (first_has x xs) p.2) p.1)),
    once_map f xs (λ a b c d. apart a b (rest_has x xs a c) (rest_has x xs b d)) h.1,
  )

  -- and so does a partial one
  pub once_filter : (f : X → Option Y) → ((a b : X) (y : Y) → f a ≡ Some y → f b ≡ Some y → a ≡ b) → (xs : List X) → IsOnceEach xs → IsOnceEach (filter_map f xs)
  unfolding IsOnceEach
  once_filter f apart [] h = tt
  once_filter f apart (x ∷ xs) h = by (f x) refl (once_filter f apart xs h.1)
    where
      by : (o : Option Y) → f x ≡ o → IsOnceEach (filter_map f xs) → IsOnceEach (cons_option o (filter_map f xs))
      by None e rest = rest
      by (Some y) e rest = ((λ c. let p = filter_from f xs y c in h.0 (subst (Contains xs) (apart p.0 x y p.2 e) p.1)), rest)
