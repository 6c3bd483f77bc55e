-- How a list of ranges comes to hold more numbers, range by range.
use Rattle.std.proofs.Common.{◌≡◌, ◌↔◌, ◌⊎◌, ℕ, ◌+◌, ◌<◌, ◌≤◌, Bool, ◌||◌, List, [], ◌∷◌, ◌++◌, length, take, get_or, inl, inr, refl, sym, ap, ◌∙◌, ⊎_elim, subst, Any, IsTrue, zero, suc, not-suc-le-zero, le_of_suc-le-suc, arith}
use Rattle.std.proofs.lemmas.Bool.{or_cases, or_left, or_right, both_ways}
use Rattle.std.proofs.lemmas.List.{take_more, take_all}
use Rattle.regex_class.specs.Ranges.{Range, in_range, in_ranges}
use Rattle.regex_class.proofs.RangesLemmas.{in_range_tells, in_ranges-push, in_ranges-append}
use Rattle.unicode.specs.Rows as rows
use Rattle.ix_sets.specs.Gains.{Gains}

-- P is true of some element
abbrev pub SomeOf : {X : Type 0} → (X → Type 0) → List X → Type 0
SomeOf P [] = ⊥
SomeOf P (x ∷ xs) = P x ⊎ SomeOf P xs

some_push : {X : Type 0} (P : X → Type 0) (xs : List X) (y : X) → SomeOf P (xs ++ y ∷ []) → SomeOf P xs ⊎ P y
some_push P [] y (inl h) = inr h
some_push P [] y (inr h) = absurd h
some_push P (x ∷ xs) y (inl h) = inl (inl h)
some_push P (x ∷ xs) y (inr h) = elim (some_push P xs y h) [ inl s ↦ inl (inr s) | inr p ↦ inr p ]

push_some : {X : Type 0} (P : X → Type 0) (xs : List X) (y : X) → SomeOf P xs ⊎ P y → SomeOf P (xs ++ y ∷ [])
push_some P [] y (inl h) = absurd h
push_some P [] y (inr h) = inl h
push_some P (x ∷ xs) y (inl (inl h)) = inl h
push_some P (x ∷ xs) y (inl (inr h)) = inr (push_some P xs y (inl h))
push_some P (x ∷ xs) y (inr h) = inr (push_some P xs y (inr h))

-- of an element at its place
pub some_at : {X : Type 0} (P : X → Type 0) (xs : List X) (i : ℕ) (d : X) → i < length xs → P (get_or xs i d) → SomeOf P xs
some_at P [] i d h p = absurd (not-suc-le-zero h)
some_at P (x ∷ xs) zero d h p = inl p
some_at P (x ∷ xs) (suc i) d h p = inr (some_at P xs i d (le_of_suc-le-suc h) p)

pub some_of_any : {X : Type 0} (P : X → Type 0) (xs : List X) → Any P xs → SomeOf P xs
some_of_any P xs (k, x, h, is, p) = some_at P xs k x h (let Q : _ = P in subst Q (sym is) p)

pub any_of_some : {X : Type 0} (P : X → Type 0) (xs : List X) → SomeOf P xs → Any P xs
any_of_some P [] h = absurd h
any_of_some P (x ∷ xs) (inl h) = (0, x, omega arith, refl, h)
any_of_some P (x ∷ xs) (inr h) =
    let found = any_of_some P xs h in
    (suc found.0, found.1, omega (arith, found.2), found.3, found.4)

pub some_map : {X : Type 0} {P Q : X → Type 0} (xs : List X) → ((x : X) → P x → Q x) → SomeOf P xs → SomeOf Q xs
some_map [] f h = h
some_map (x ∷ xs) f (inl h) = inl (f x h)
some_map (x ∷ xs) f (inr h) = inr (some_map xs f h)

-- what every element of which P is true tells
pub some_tells : {X B : Type 0} {P : X → Type 0} (xs : List X) → ((x : X) → P x → B) → SomeOf P xs → B
some_tells [] f h = absurd h
some_tells (x ∷ xs) f (inl h) = f x h
some_tells (x ∷ xs) f (inr h) = some_tells xs f h

-- ---- tests of ranges

held_or : (a b : Bool) → IsTrue (a || b) ↔ (IsTrue a ⊎ IsTrue b)
held_or a b = (or_cases a b, ⊎_elim (or_left a b) (or_right a b))

held_range : (low high c : ℕ) → IsTrue (in_range (low, high) c) ↔ ((low ≤ c) × (c ≤ high))
held_range low high c = elim (in_range_tells (low, high) c) [
  | inl t ↦ (λ _. (t.1, t.2), λ _. t.0)
  | inr f ↦ (λ h. absurd (both_ways _ f.0 h), λ h. absurd (elim f.1 [ inl below ↦ omega arith | inr above ↦ omega arith ]))
]

same_tests : (rs : List Range) (c : ℕ) → rows.in_ranges rs c ≡ in_ranges rs c
unfolding rows.in_ranges in_ranges in_range
same_tests [] c = refl
same_tests (r ∷ rs) c = ap (λ b. in_range r c || b) (same_tests rs c)

-- ---- steps

pub gains_nothing : (rs : List Range) (P : ℕ → Type 0) → ((c : ℕ) → ¬ (P c)) → Gains rs rs P
gains_nothing rs P none = record { held = λ c m. (inl, ⊎_elim (λ h. h) (λ p. absurd (none c p))) }

pub gains_range : {old new : List Range} (low high : ℕ) → new ≡ old ++ (low, high) ∷ [] → Gains old new (λ c. (low ≤ c) × (c ≤ high))
gains_range {old} low high e = record {
  held = λ c m.
      let added = ap (λ rs. in_ranges rs c) e ∙ in_ranges-push old (low, high) c in
      let r = held_range low high c in
      (λ h. ⊎_elim inl (λ t. inr (r.0 t)) (or_cases _ _ (sym added ∙ h)), λ h. added ∙ (held_or _ _).1 (⊎_elim inl (λ b. inr (r.1 b)) h));
}

pub gains_ranges : {old new : List Range} (more : List Range) (p : ℕ → Bool) → new ≡ old ++ more → rows.HasExactly more p → Gains old new (λ c. IsTrue (p c))
gains_ranges {old} more p e all = record {
  held = λ c m.
      let added = ap (λ rs. in_ranges rs c) e ∙ in_ranges-append old more c ∙ ap (λ b. in_ranges old c || b) (sym (same_tests more c) ∙ all c m) in
      (λ h. or_cases _ _ (sym added ∙ h), λ h. added ∙ (held_or _ _).1 h);
}

-- the same, said otherwise
pub gains_as : {old new : List Range} {P : ℕ → Type 0} (Q : ℕ → Type 0) → Gains old new P → ((c : ℕ) → P c → Q c) → ((c : ℕ) → Q c → P c) → Gains old new Q
gains_as Q g to from = record {
  held = λ c m.
      let h = g.held c m in
      (λ t. ⊎_elim inl (λ p. inr (to c p)) (h.0 t), λ t. h.1 (⊎_elim inl (λ q. inr (from c q)) t));
}

pub gains_one : {old new : List Range} (x : ℕ) → Gains old new (λ c. (x ≤ c) × (c ≤ x)) → Gains old new (λ c. c ≡ x)
gains_one x g = gains_as (λ c. c ≡ x) g (λ c h. omega arith) (λ c h. (omega arith, omega arith))

-- one element more: what stands for those before it is held, and what stands for it is gained
pub gains_more : {X : Type 0} {old mid new : List Range} (Q : ℕ → X → Type 0) (xs : List X) (i : ℕ) (x d : X) → i < length xs → x ≡ get_or xs i d → Gains old mid (λ c. SomeOf (Q c) (take i xs)) → Gains mid new (λ c. Q c x) → Gains old new (λ c. SomeOf (Q c) (take (i + 1) xs))
gains_more Q xs i x d h is a b = record {
  held = λ c m.
      let e : take (i + 1) xs ≡ take i xs ++ x ∷ [] = take_more xs i d h ∙ ap (λ y. take i xs ++ y ∷ []) (sym is) in
      let f = a.held c m in
      let g = b.held c m in (
        λ t. elim (g.0 t) [
          | inl before ↦ ⊎_elim inl (λ s. inr (rw e (push_some (Q c) (take i xs) x (inl s)))) (f.0 before)
          | inr q ↦ inr (rw e (push_some (Q c) (take i xs) x (inr q)))
        ],
        λ t. elim t [
          | inl before ↦ g.1 (inl (f.1 (inl before)))
          | inr s ↦ elim (some_push (Q c) (take i xs) x (rw e at s)) [ inl earlier ↦ g.1 (inl (f.1 (inr earlier))) | inr q ↦ g.1 (inr q) ]
        ],
      );
}

pub gains_all : {X : Type 0} {old new : List Range} (Q : ℕ → X → Type 0) (xs : List X) (i : ℕ) → length xs ≤ i → Gains old new (λ c. SomeOf (Q c) (take i xs)) → Gains old new (λ c. SomeOf (Q c) xs)
gains_all Q xs i h g =
    let e : take i xs ≡ xs = take_all i xs h in
    rw e at g

-- first what P is true of, and then what Q is true of
pub gains_both : {old mid new : List Range} {P Q : ℕ → Type 0} (R : ℕ → Type 0) → Gains old mid P → Gains mid new Q → ((c : ℕ) → P c ⊎ Q c → R c) → ((c : ℕ) → R c → P c ⊎ Q c) → Gains old new R
gains_both R a b to from = record {
  held = λ c m.
      let f = a.held c m in
      let g = b.held c m in (
        λ t. elim (g.0 t) [
          | inl before ↦ ⊎_elim inl (λ p. inr (to c (inl p))) (f.0 before)
          | inr q ↦ inr (to c (inr q))
        ],
        λ t. elim t [
          | inl before ↦ g.1 (inl (f.1 (inl before)))
          | inr r ↦ elim (from c r) [ inl p ↦ g.1 (inl (f.1 (inr p))) | inr q ↦ g.1 (inr q) ]
        ],
      );
}
