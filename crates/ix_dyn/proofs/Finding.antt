-- The first of a list that is not as it should be, and the first of lists that are joined.
use Rattle.std.proofs.Common.{◌≡◌, ◌<◌, ◌+◌, refl, ap, sym, ◌∙◌, subst, ℕ, zero, suc, Bool, true, false, cond, List, [], ◌∷◌, length, drop, get_or, map, Option, Some, None, slice_get}
use Rattle.std.specs.Prelude.{not, IsTrue, IfSome, MatchOption}
use Rattle.std.specs.List.{AllByRecursion, find, flat_map}
use Rattle.std.specs.Option.{is_some, option_or}
use Rattle.std.proofs.lemmas.Bool.{cond_both}
use Rattle.std.proofs.lemmas.List.{at_drop_more}
use Rattle.std.proofs.lemmas.List.Folds.{find-append}
use Rattle.ix_model.specs.Firsts.{IsFirstOf}
use Rattle.ix_model.proofs.Firsts.{at_front, behind}

-- ---- lists that are joined

module _ {X Y : Type 0} (p : Y → Bool) (parts : X → List Y) where
  find_more : (xs : List X) (i : ℕ) (x : X) → i < length xs →
      find p (flat_map parts (drop i xs)) ≡ option_or (find p (parts (get_or xs i x))) (find p (flat_map parts (drop (i + 1) xs)))
  find_more xs i x l =
      at_drop_more (λ ys. find p (flat_map parts ys)) xs i x l ∙ find-append p (parts (get_or xs i x)) (flat_map parts (drop (i + 1) xs))

  -- the list that is gone over
  module _ (xs ys : List X) (same : ys ≡ xs) (i : ℕ) (x : X) (l : i < length ys) where
    next_is : (r : Option Y) → r ≡ find p (parts (get_or ys i x)) → find p (flat_map parts (drop i xs)) ≡ find p (flat_map parts xs) →
        option_or r (find p (flat_map parts (drop (i + 1) xs))) ≡ find p (flat_map parts xs)
    next_is r e h =
        ap (λ o. option_or o (find p (flat_map parts (drop (i + 1) xs)))) (e ∙ ap (λ zs. find p (parts (get_or zs i x))) same)
        ∙ sym (find_more xs i x (subst (λ zs. i < length zs) same l)) ∙ h

    -- one is found in the parts of the next
    pub found_next : (r : Option Y) → r ≡ find p (parts (get_or ys i x)) → is_some r ≡ true →
        find p (flat_map parts (drop i xs)) ≡ find p (flat_map parts xs) → r ≡ find p (flat_map parts xs)
    found_next None e s h = absurd (cc s)
    found_next (Some y) e s h = next_is (Some y) e h

    -- none is
    pub none_next : (r : Option Y) → r ≡ find p (parts (get_or ys i x)) → is_some r ≡ false →
        find p (flat_map parts (drop i xs)) ≡ find p (flat_map parts xs) → find p (flat_map parts (drop (i + 1) xs)) ≡ find p (flat_map parts xs)
    none_next None e s h = next_is None e h
    none_next (Some y) e s h = absurd (cc s)

-- ---- what is found

-- it has what all of the list have
pub found_in : {X : Type 0} (P : X → Type 0) (p : X → Bool) (xs : List X) → AllByRecursion P xs → IfSome (find p xs) P
found_in P p [] h = tt
found_in P p (x ∷ xs) h = cond_both (p x) (Some x) (find p xs) (λ o. IfSome o P) (λ e. h.0) (λ e. found_in P p xs h.1)

module _ {X Y : Type 0} (f : X → Y) (good : Y → Bool) where
  -- y is not as it should be
  abbrev IsBad : ℕ → Y → Type 0
  IsBad n y = ¬ (IsTrue (good y))

  -- none of them is not as it should be
  abbrev NoneBad : List Y → Type 0
  NoneBad ys = (n : ℕ) (y : Y) → slice_get ys n ≡ Some y → ¬ (IsBad n y)

  -- the first whose image is not as it should be gives the first of the images, or none is
  pub found_is_first : (xs : List X) → MatchOption (find (λ x. not (good (f x))) xs) (NoneBad (map f xs)) (λ x. IsFirstOf IsBad (map f xs) (f x))
  found_is_first [] = λ n y e. absurd (cc e)
  found_is_first (x ∷ xs) = by (good (f x)) refl (find (λ z. not (good (f z))) xs) (found_is_first xs)
    where
      further : good (f x) ≡ true → (r : Option X) → MatchOption r (NoneBad (map f xs)) (λ z. IsFirstOf IsBad (map f xs) (f z)) →
          MatchOption r (NoneBad (f x ∷ map f xs)) (λ z. IsFirstOf IsBad (f x ∷ map f xs) (f z))
      further g None h = none
        where
          none : (n : ℕ) (y : Y) → slice_get (f x ∷ map f xs) n ≡ Some y → ¬ (IsBad n y)
          none zero y e bad = bad (subst (λ z. good z ≡ true) (sym {a = y} {b = f x} (cc e)) g)
          none (suc n) y e bad = h n y e bad
      further g (Some z) h = behind IsBad (f x) (map f xs) (f z) (λ bad. bad g) h

      by : (b : Bool) → good (f x) ≡ b → (r : Option X) → MatchOption r (NoneBad (map f xs)) (λ z. IsFirstOf IsBad (map f xs) (f z)) →
          MatchOption (cond (not b) (Some x) r) (NoneBad (f x ∷ map f xs)) (λ z. IsFirstOf IsBad (f x ∷ map f xs) (f z))
      by true g r h = further g r h
      by false g r h = at_front IsBad (f x) (map f xs) (λ t. absurd (cc (t, g)))
