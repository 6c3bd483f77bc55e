-- What a list has, by std's lemmas at an element in front, and what a log has after a fact is put into it.
use Rattle.std.proofs.Common.{◌≡◌, ℕ, zero, suc, true, List, [], ◌∷◌, Contains, Some, slice_get, arith, subst, ◌⊎◌, inl, inr}
use Rattle.std.specs.Cmp.{IsEquivalence}
use Rattle.std.proofs.lemmas.List.Elements.{Contains-append_left, Contains-append_right, Contains-append_cases, Contains-push, Contains-push_cases}
use Rattle.std.proofs.lemmas.Map.Views.{list_any-from_Contains, Contains-from_any}
use Rattle.std.proofs.lemmas.Option.{get_or_from_slice_get, slice_get_within}
use Rattle.ix_cluster.specs.declared.fact.Fact.{Fact}
use Rattle.ix_cluster.specs.Facts.{same_fact, has, put}
use Rattle.ix_cluster.proofs.FactLemmas.{same_fact-true, same_fact-refl}
use Rattle.ix_cluster.proofs.Recording.{put_both}
use Rattle.ix_cluster.proofs.Equivalences.{equivalence}

module _ {X : Type 0} where
  -- a list of one has that one alone
  pub one_has : (y x : X) → Contains (y ∷ []) x → y ≡ x
  one_has y x (zero, h, e) = e
  one_has y x (suc k, h, e) = absurd (omega (arith, h))

  pub first_has : (y : X) (ys : List X) → Contains (y ∷ ys) y
  first_has y ys = Contains-append_left (y ∷ []) ys y (Contains-push [] y)

  pub rest_has : (y : X) (ys : List X) (x : X) → Contains ys x → Contains (y ∷ ys) x
  rest_has y ys x h = Contains-append_right (y ∷ []) ys x h

  pub either_has : (y : X) (ys : List X) (x : X) → Contains (y ∷ ys) x → (y ≡ x) ⊎ Contains ys x
  either_has y ys x h = elim (Contains-append_cases (y ∷ []) ys x h) [ inl o ↦ inl (one_has y x o) | inr n ↦ inr n ]

  -- what holds of the first and of all behind it holds of all
  pub each_has : (P : X → Type 0) (y : X) (ys : List X) → P y → ((x : X) → Contains ys x → P x) → (x : X) → Contains (y ∷ ys) x → P x
  each_has P y ys here rest x h = elim (either_has y ys x h) [ inl e ↦ subst P e here | inr n ↦ rest x n ]

  pub nth_has : (xs : List X) (n : ℕ) (x : X) → slice_get xs n ≡ Some x → Contains xs x
  nth_has xs n x e = (n, slice_get_within xs n x e, get_or_from_slice_get xs n x x e)

  pub none_has : (x : X) → Contains [] x → ⊥
  none_has x h = omega (arith, h.1)

pub same_fact-equivalence : IsEquivalence same_fact
same_fact-equivalence = equivalence same_fact same_fact-true same_fact-refl

-- the test of a log finds what it has
pub has-Contains : (log : List Fact) (f : Fact) → Contains log f → has log f ≡ true
has-Contains log f h = list_any-from_Contains same_fact-equivalence f log h

pub Contains-has : (log : List Fact) (f : Fact) → has log f ≡ true → Contains log f
Contains-has log f h = Contains-from_any same_fact-true f log h

pub put-keeps : (log : List Fact) (f g : Fact) → Contains log g → Contains (put log f) g
put-keeps log f g h = put_both (λ new. Contains new g) log f (λ _. h) (λ _. Contains-append_left log (f ∷ []) g h)

pub put-there : (log : List Fact) (f : Fact) → Contains (put log f) f
put-there log f = put_both (λ new. Contains new f) log f (Contains-has log f) (λ _. Contains-push log f)

pub put-from : (log : List Fact) (f g : Fact) → Contains (put log f) g → Contains log g ⊎ (f ≡ g)
put-from log f g = put_both (λ new. Contains new g → Contains log g ⊎ (f ≡ g)) log f (λ _. inl) (λ _. Contains-push_cases log f g)
