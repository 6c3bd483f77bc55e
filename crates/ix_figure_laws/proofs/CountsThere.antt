-- Things that all stand in some list have a number: it can't be that they have none.
use Rattle.std.proofs.Common.{◌≡◌, ◌⊎◌, ℕ, zero, suc, List, [], ◌∷◌, length, Some, slice_get, refl, sym, ap, subst, inl, inr}
use Rattle.ix_model.specs.Closure.Counting.{Lists, HasCount}
use Rattle.ix_figure_laws.proofs.Places.{IsIn, one_further}

-- it can't be refused
abbrev pub Surely : Type 0 → Type 0
Surely A = (A → ⊥) → ⊥

holds_or_not : (A : Type 0) → Surely (A ⊎ (A → ⊥))
holds_or_not A k = k (inr (λ a. k (inl a)))

module _ {X : Type 0} (P : X → Type 0) where
  -- the list has exactly those of cs that are of the kind, each once
  abbrev ListsOf : List X → List X → Type 0
  ListsOf cs xs = Lists (λ (x : X). IsIn cs x × P x) xs

  -- with one more among them that is not of the kind, or is listed already
  passed : (c : X) (cs xs : List X) → ListsOf cs xs → (P c → IsIn xs c) → ListsOf (c ∷ cs) xs
  passed c cs xs h there = record { sound = λ n x e. let s = h.sound n x e in (one_further c cs x s.0, s.1); whole = whole; once = h.once }
    where
      whole : (x : X) → IsIn (c ∷ cs) x × P x → IsIn xs x
      whole x ((zero, e), is) = let same : c ≡ x = cc e in subst (IsIn xs) same (there (subst P (sym same) is))
      whole x ((suc n, e), is) = h.whole x ((n, e), is)

  -- with one more among them that is of the kind, and is not listed yet
  taken : (c : X) (cs xs : List X) → ListsOf cs xs → P c → (IsIn xs c → ⊥) → ListsOf (c ∷ cs) (c ∷ xs)
  taken c cs xs h here new = record { sound = sound; whole = whole; once = once }
    where
      sound : (n : ℕ) (x : X) → slice_get (c ∷ xs) n ≡ Some x → IsIn (c ∷ cs) x × P x
      sound zero x e = let same : c ≡ x = cc e in ((0, e), subst P same here)
      sound (suc n) x e = let s = h.sound n x e in (one_further c cs x s.0, s.1)

      whole : (x : X) → IsIn (c ∷ cs) x × P x → IsIn (c ∷ xs) x
      whole x ((zero, e), is) = (0, e)
      whole x ((suc n, e), is) = one_further c xs x (h.whole x ((n, e), is))

      once : (m n : ℕ) (x : X) → slice_get (c ∷ xs) m ≡ Some x → slice_get (c ∷ xs) n ≡ Some x → m ≡ n
      once zero zero x d e = refl
      once zero (suc n) x d e = let same : x ≡ c = cc d in absurd (new (subst (IsIn xs) same (n, e)))
      once (suc m) zero x d e = let same : x ≡ c = cc e in absurd (new (subst (IsIn xs) same (m, d)))
      once (suc m) (suc n) x d e = ap suc (h.once m n x d e)

  -- they are listed
  listed : (cs : List X) → Surely ((xs : List X) × ListsOf cs xs)
  listed [] k = k ([], record { sound = λ n x e. absurd (cc e); whole = λ x h. absurd (cc h.0.1); once = λ m n x d e. absurd (cc d) })
  listed (c ∷ cs) k = listed cs (λ f. holds_or_not (P c) (by f))
    where
      by_new : (f : (xs : List X) × ListsOf cs xs) → P c → IsIn f.0 c ⊎ (IsIn f.0 c → ⊥) → ⊥
      by_new f here (inl there) = k (f.0, passed c cs f.0 f.1 (λ _. there))
      by_new f here (inr new) = k (c ∷ f.0, taken c cs f.0 f.1 here new)

      by : (f : (xs : List X) × ListsOf cs xs) → P c ⊎ (P c → ⊥) → ⊥
      by f (inl here) = holds_or_not (IsIn f.0 c) (by_new f here)
      by f (inr none) = k (f.0, passed c cs f.0 f.1 (λ here. absurd (none here)))

  -- so there are so many of a kind, where all of it stand in a list
  pub count_is_there : (cs : List X) → ((x : X) → P x → IsIn cs x) → Surely ((n : ℕ) × HasCount P n)
  count_is_there cs all k = listed cs (λ f. k (length f.0, (f.0, record { sound = λ n x e. (f.1.sound n x e).1; whole = λ x h. f.1.whole x (all x h, h); once = f.1.once }, refl)))
