-- Searches in lists that are put together from others.
use Rattle.std.proofs.Common.{◌≡◌, refl, ap, sym, ◌∙◌, subst, ◌⊎◌, inl, inr, ℕ, zero, suc, ◌+◌, ◌<◌, ◌≤◌, List, [], ◌∷◌, ◌++◌, length, get_or, take, Option, Some, None, append-nil, append_assoc, arith}
use Rattle.std.specs.Prelude.{slice_get}
use Rattle.std.specs.List.{AllByRecursion, flat_map}
use Rattle.std.proofs.lemmas.Grind.{flat_map-append}
use Rattle.std.proofs.lemmas.List.{take_more, take_all}
use Rattle.std.specs.Option.{option_map}
use Rattle.std.proofs.lemmas.Option.{slice_get_within, slice_get-map, slice_get-get_or}
use Rattle.ix_model.specs.declared.grammar.Rule.{Rule}
use Rattle.ix_model.specs.Grammars.Names.{names_of}
use Rattle.ix_model.specs.Firsts.{IsFirstOf}
use Rattle.ix_model.proofs.Firsts.{at_front, behind as behind_front, first_then}
use Rattle.ix_model.proofs.AllOf.{all_append, all_left, all_right}
use Rattle.ix_errors.specs.Firsts.{IsSearchFor, IsRepeatedAt, NoneRepeatedBelow, IsSearchForRepeated}

module _ {X : Type 0} (P : X → Type 0) where
  -- a search goes on where all before are as they should be
  pub search_on : (xs ys : List X) (o : Option X) → AllByRecursion P xs → IsSearchFor P ys o → IsSearchFor P (xs ++ ys) o
  search_on xs ys None h k = all_append P xs ys h k
  search_on [] ys (Some x) h k = k
  search_on (z ∷ xs) ys (Some x) h k = behind_front (λ n y. ¬ (P y)) z (xs ++ ys) x (λ n. n h.0) (search_on xs ys (Some x) h.1 k)

  module _ {Y : Type 0} (f : Y → List X) where
    -- what holds of all that a list gives holds of what one of it gives
    pub all_at : (ys : List Y) (i : ℕ) (y : Y) → i < length ys → AllByRecursion P (flat_map f ys) → AllByRecursion P (f (get_or ys i y))
    all_at [] i y l h = absurd (omega (arith, l))
    all_at (z ∷ ys) zero y l h = all_left P (f z) (flat_map f ys) h
    all_at (z ∷ ys) (suc i) y l h = all_at ys i y (omega (arith, l)) (all_right P (f z) (flat_map f ys) h)

    more : (ys : List Y) (i : ℕ) (y : Y) → i < length ys → flat_map f (take (i + 1) ys) ≡ flat_map f (take i ys) ++ f (get_or ys i y)
    more ys i y l = ap (flat_map f) (take_more ys i y l) ∙ flat_map-append f (take i ys) (get_or ys i y ∷ []) ∙ ap (λ zs. flat_map f (take i ys) ++ zs) (append-nil (f (get_or ys i y)))

    -- one more is as it should be
    pub searched_more : (ys : List Y) (i : ℕ) (y : Y) → i < length ys → y ≡ get_or ys i y → AllByRecursion P (flat_map f (take i ys)) → IsSearchFor P (f y) None → AllByRecursion P (flat_map f (take (i + 1) ys))
    searched_more ys i y l e h k =
        subst (AllByRecursion P) (sym (more ys i y l)) (all_append P (flat_map f (take i ys)) (f (get_or ys i y)) h (subst (λ (z : Y). AllByRecursion P (f z)) e k))

    behind : (ys : List Y) (i : ℕ) → (zs : List X) × (flat_map f ys ≡ flat_map f (take i ys) ++ zs)
    behind [] zero = ([], refl)
    behind [] (suc i) = ([], refl)
    behind (y ∷ ys) zero = (flat_map f (y ∷ ys), refl)
    behind (y ∷ ys) (suc i) = later (behind ys i)
      where
        later : (zs : List X) × (flat_map f ys ≡ flat_map f (take i ys) ++ zs) → (zs : List X) × (flat_map f (y ∷ ys) ≡ flat_map f (take (suc i) (y ∷ ys)) ++ zs)
        later (zs, e) = (zs, ap (λ ws. f y ++ ws) e ∙ sym (append_assoc (f y) (flat_map f (take i ys)) zs))

    -- one is not as it should be, and all before it are
    pub found_at : (ys : List Y) (i : ℕ) (y : Y) (x : X) → i < length ys → y ≡ get_or ys i y → AllByRecursion P (flat_map f (take i ys)) → IsSearchFor P (f y) (Some x) → IsSearchFor P (flat_map f ys) (Some x)
    found_at ys i y x l e h k =
        let here : IsSearchFor P (flat_map f (take i ys) ++ f (get_or ys i y)) (Some x) = search_on (flat_map f (take i ys)) (f (get_or ys i y)) (Some x) h (subst (λ (z : Y). IsSearchFor P (f z) (Some x)) e k) in
        let rest = behind ys (i + 1) in
        subst (λ zs. IsFirstOf (λ n z. ¬ (P z)) zs x) (sym rest.1) (first_then (λ n z. ¬ (P z)) (flat_map f (take (i + 1) ys)) rest.0 x (subst (λ zs. IsFirstOf (λ n z. ¬ (P z)) zs x) (sym (more ys i y l)) here))

    -- all are as they should be
    pub none_found : (ys : List Y) (i : ℕ) → length ys ≤ i → AllByRecursion P (flat_map f (take i ys)) → IsSearchFor P (flat_map f ys) None
    none_found ys i l h = subst (λ zs. AllByRecursion P (flat_map f zs)) (take_all i ys l) h

  -- the only one is not as it should be
  pub alone : (xs : List X) (x : X) → xs ≡ x ∷ [] → ¬ (P x) → IsFirstOf (λ n y. ¬ (P y)) xs x
  alone xs x e n = subst (λ ys. IsFirstOf (λ n y. ¬ (P y)) ys x) (sym e) (at_front (λ n y. ¬ (P y)) x [] n)

-- ---- repeated names

-- the name of a rule stands among the names at the rule's number
pub name_here : (rules : List Rule) (names : List (List ℕ)) (n : ℕ) (rule : Rule) → names ≡ names_of rules → n < length rules → slice_get names n ≡ Some (get_or rules n rule).name
name_here rules names n rule e l =
    ap (λ (ns : List (List ℕ)). slice_get ns n) e ∙ slice_get-map (λ (r : Rule). r.name) rules n ∙ ap (option_map (λ (r : Rule). r.name)) (slice_get-get_or rules n rule l)

-- the name at one more place is not repeated
pub one_more_unrepeated : (names : List (List ℕ)) (n : ℕ) (name : List ℕ) → NoneRepeatedBelow names n → slice_get names n ≡ Some name → ¬ (IsRepeatedAt names n name) → NoneRepeatedBelow names (n + 1)
one_more_unrepeated names n name none here not_here p other l h = by_place (below_or_at p n (omega (arith, l)))
  where
    below_or_at : (a b : ℕ) → a < b + 1 → (a < b) ⊎ (a ≡ b)
    below_or_at a b k = grind (arith, k)

    by_place : (p < n) ⊎ (p ≡ n) → ⊥
    by_place (inl k) = none p other k h
    by_place (inr e) =
        let i : IsRepeatedAt names n other = subst (λ (z : ℕ). IsRepeatedAt names z other) e h in
        let s : Some other ≡ Some name = sym i.0 ∙ here in
        let d : other ≡ name = cc s in
        not_here (subst (IsRepeatedAt names n) d i)

-- no place is left
pub none_repeated : (names : List (List ℕ)) (n : ℕ) → length names ≤ n → NoneRepeatedBelow names n → IsSearchForRepeated names None
none_repeated names n l none p other h = none p other (omega (arith, l, slice_get_within names p other h.0)) h
