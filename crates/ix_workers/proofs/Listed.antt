-- Elements of lists by their numbers.
use Rattle.std.proofs.Common.{◌≡◌, ◌<◌, ℕ, zero, suc, List, [], ◌∷◌, ◌++◌, length, get_or, Some, slice_get, refl, sym, ap, ◌∙◌, subst, inl, inr, arith}
use Rattle.std.proofs.lemmas.Option.{get_or_from_slice_get, slice_get_within, slice_get-get_or}
use Rattle.ix_cluster.proofs.Elements.{get-push}
use Rattle.ix_workers.specs.Team.{EachAt}

module _ {A : Type 0} where
  pub each_push : (P : ℕ → A → Type 0) (xs : List A) (x : A) → EachAt P xs → P (length xs) x → EachAt P (xs ++ x ∷ [])
  each_push P xs x each last k y e = elim (get-push xs x k y e) [ inl h ↦ each k y h | inr h ↦ subst (P k) h.1 (subst (λ (n : ℕ). P n x) (sym h.0) last) ]

  pub at_next : (xs ys zs ys' : List A) (x : A) → xs ++ ys ≡ zs → ys ≡ x ∷ ys' → slice_get zs (length xs) ≡ Some x
  at_next xs ys zs ys' x all next = subst (λ (l : List A). slice_get l (length xs) ≡ Some x) all (subst (λ (l : List A). slice_get (xs ++ l) (length xs) ≡ Some x) (sym next) (behind xs))
    where
      behind : (us : List A) → slice_get (us ++ x ∷ ys') (length us) ≡ Some x
      behind [] = refl
      behind (u ∷ us) = behind us

  pub nil_of : (l : List A) → length l ≡ 0 → l ≡ []
  nil_of [] e = refl
  nil_of (x ∷ xs) e = absurd (omega arith)

  -- an element that is read at a number stands there
  pub read_at : (xs : List A) (k : ℕ) (x : A) → k < length xs → x ≡ get_or xs k x → slice_get xs k ≡ Some x
  read_at xs k x near is = slice_get-get_or xs k x near ∙ ap Some (sym is)

  pub near_at : (xs : List A) (k : ℕ) (x : A) → slice_get xs k ≡ Some x → k < length xs
  near_at xs k x e = slice_get_within xs k x e

  pub is_at : (xs : List A) (k : ℕ) (x d : A) → slice_get xs k ≡ Some x → get_or xs k d ≡ x
  is_at xs k x d e = get_or_from_slice_get xs k x d e

-- a list of the same length has an element at the same number
pub at_same : {A B : Type 0} → (xs : List A) (ys : List B) (k : ℕ) (x : A) → slice_get xs k ≡ Some x → length xs ≡ length ys → (y : B) × (slice_get ys k ≡ Some y)
at_same xs ys k x e same = found ys k (let near = slice_get_within xs k x e in omega arith)
  where
    found : {B : Type 0} → (ys : List B) (k : ℕ) → k < length ys → (y : B) × (slice_get ys k ≡ Some y)
    found [] k near = absurd (omega arith)
    found (y ∷ ys) zero near = (y, refl)
    found (y ∷ ys) (suc k) near = found ys k (omega arith)
