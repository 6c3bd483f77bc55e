-- What lists have that are made of other lists.
use Rattle.std.proofs.Common.{◌≡◌, ℕ, zero, suc, List, [], ◌∷◌, map, remove, Contains, Option, Some, None, slice_get, refl, sym, ap, ◌∙◌, subst, ◌⊎◌, inl, inr, arith}
use Rattle.std.specs.List.{All, filter_map, flat_map, cons_option}
use Rattle.std.proofs.lemmas.List.{get_or-map, length-map}
use Rattle.std.proofs.lemmas.List.Concat.{flat_map-cons}
use Rattle.std.proofs.lemmas.List.Elements.{All-contains_itself, All-weaker, Contains-append_left, Contains-append_right, Contains-append_cases}
use Rattle.std.proofs.lemmas.Option.{slice_get-get_or}
use Rattle.ix_cluster.proofs.Members.{first_has, rest_has, either_has, none_has}

module _ {X : Type 0} where
  pub place_in : (xs : List X) (x : X) → Contains xs x → (n : ℕ) × (slice_get xs n ≡ Some x)
  place_in xs x h = (h.0, slice_get-get_or xs h.0 x h.1 ∙ ap Some h.2)

  pub all_have : (P : X → Type 0) (xs : List X) → ((x : X) → Contains xs x → P x) → All P xs
  all_have P xs h = All-weaker (Contains xs) P h xs (All-contains_itself xs)

  -- what is left was there
  pub left_was : (xs : List X) (n : ℕ) (x : X) → Contains (remove xs n) x → Contains xs x
  left_was [] zero x h = h
  left_was [] (suc n) x h = h
  left_was (y ∷ ys) zero x h = rest_has y ys x h
  left_was (y ∷ ys) (suc n) x h = elim (either_has y (remove ys n) x h) [ inl e ↦ subst (Contains (y ∷ ys)) e (first_has y ys) | inr r ↦ rest_has y ys x (left_was ys n x r) ]

  -- what was there was taken or is left
  pub taken_or_left : (xs : List X) (n : ℕ) (y x : X) → slice_get xs n ≡ Some y → Contains xs x → (y ≡ x) ⊎ Contains (remove xs n) x
  taken_or_left [] n y x e h = absurd (none_has x h)
  taken_or_left (z ∷ zs) zero y x e h = elim (either_has z zs x h) [ inl w ↦ inl (cc) | inr r ↦ inr r ]
  taken_or_left (z ∷ zs) (suc n) y x e h = elim (either_has z zs x h) [
    | inl w ↦ inr (subst (Contains (z ∷ remove zs n)) w (first_has z (remove zs n)))
    | inr r ↦ elim (taken_or_left zs n y x e r) [ inl w ↦ inl w | inr l ↦ inr (rest_has z (remove zs n) x l) ]
  ]

module _ {X Y : Type 0} where
  pub map_has : (f : X → Y) (xs : List X) (x : X) → Contains xs x → Contains (map f xs) (f x)
  map_has f xs x h = (h.0, omega (arith, h.1, length-map xs f), get_or-map f xs h.0 x (f x) h.1 ∙ ap f h.2)

  pub map_from : (f : X → Y) (xs : List X) (y : Y) → Contains (map f xs) y → (x : X) × Contains xs x × (f x ≡ y)
  map_from f [] y h = absurd (none_has y h)
  map_from f (x ∷ xs) y h = elim (either_has (f x) (map f xs) y h) [
    | inl e ↦ (x, first_has x xs, e)
    | inr r ↦ let p = map_from f xs y r in (p.0, rest_has x xs p.0 p.1, p.2)
  ]

  pub filter_has : (f : X → Option Y) (xs : List X) (x : X) (y : Y) → Contains xs x → f x ≡ Some y → Contains (filter_map f xs) y
  filter_has f [] x y h e = absurd (none_has x h)
  filter_has f (z ∷ zs) x y h e = by (f z) refl (either_has z zs x h) (λ r. filter_has f zs x y r e)
    where
      by : (o : Option Y) → f z ≡ o → (z ≡ x) ⊎ Contains zs x → (Contains zs x → Contains (filter_map f zs) y) → Contains (filter_map f (z ∷ zs)) y
      by None w (inl s) rest = absurd (cc)
      by None w (inr r) rest = rw w (rest r)
      by (Some v) w (inl s) rest = let q : v ≡ y = (cc) in rw w (subst (Contains (v ∷ filter_map f zs)) q (first_has v (filter_map f zs)))
      by (Some v) w (inr r) rest = rw w (rest_has v (filter_map f zs) y (rest r))

  pub filter_from : (f : X → Option Y) (xs : List X) (y : Y) → Contains (filter_map f xs) y → (x : X) × Contains xs x × (f x ≡ Some y)
  filter_from f [] y h = absurd (none_has y h)
  filter_from f (z ∷ zs) y h = by (f z) refl h (λ r. let p = filter_from f zs y r in (p.0, rest_has z zs p.0 p.1, p.2))
    where
      by : (o : Option Y) → f z ≡ o → Contains (filter_map f (z ∷ zs)) y → (Contains (filter_map f zs) y → (x : X) × Contains (z ∷ zs) x × (f x ≡ Some y)) → (x : X) × Contains (z ∷ zs) x × (f x ≡ Some y)
      by None w r later = later (subst (λ o. Contains (cons_option o (filter_map f zs)) y) w r)
      by (Some v) w r later = elim (either_has v (filter_map f zs) y (subst (λ o. Contains (cons_option o (filter_map f zs)) y) w r)) [ inl e ↦ (z, first_has z zs, w ∙ ap Some e) | inr t ↦ later t ]

  pub flat_has : (f : X → List Y) (xs : List X) (x : X) (y : Y) → Contains xs x → Contains (f x) y → Contains (flat_map f xs) y
  flat_has f [] x y h k = absurd (none_has x h)
  flat_has f (z ∷ zs) x y h k = subst (λ l. Contains l y) (sym (flat_map-cons f z zs)) (elim (either_has z zs x h) [
    | inl e ↦ Contains-append_left (f z) (flat_map f zs) y (subst (λ w. Contains (f w) y) (sym e) k)
    | inr r ↦ Contains-append_right (f z) (flat_map f zs) y (flat_has f zs x y r k)
  ])

  pub flat_from : (f : X → List Y) (xs : List X) (y : Y) → Contains (flat_map f xs) y → (x : X) × Contains xs x × Contains (f x) y
  flat_from f [] y h = absurd (none_has y h)
  flat_from f (z ∷ zs) y h = elim (Contains-append_cases (f z) (flat_map f zs) y (subst (λ l. Contains l y) (flat_map-cons f z zs) h)) [
    | inl e ↦ (z, first_has z zs, e)
    | inr r ↦ let p = flat_from f zs y r in (p.0, rest_has z zs p.0 p.1, p.2)
  ]
