-- Sums over the views, and what a view becomes.
use Rattle.std.proofs.Common.{◌≡◌, ◌≢◌, ℕ, zero, suc, ◌+◌, ◌≤◌, List, [], ◌∷◌, ◌++◌, set, Option, Some, None, refl, sym, ap, ◌∙◌, subst, ⊎_elim, arith}
use mathlib.Core.Option.{some, some-ne-none, some-injective}
use lib.ListN.{get_elem?}
use Rattle.atomic_table.proofs.Lists.{at_set}
use Rattle.ix_rows.specs.Totals.{total}

pub some_is : {A : Type 0} (a b : A) → Some a ≡ Some b → a ≡ b
some_is a b e = cc

pub some_none : {A C : Type 0} (a : A) → None ≡ Some a → C
some_none a e = absurd (cc)

held_in : {A : Type 0} → ℕ × Option A → List (ℕ × Option A) → Option A
held_in d [] = d.1
held_in d (x ∷ xs) = x.1

-- the one slot that is out has one value
pub held_is : {A : Type 0} (word : ℕ) (a b : A) (l : List (ℕ × Option A)) → l ≡ (word, Some a) ∷ [] → l ≡ (word, Some b) ∷ [] → a ≡ b
unfolding held_in
held_is word a b l e f = some_is a b (ap (held_in (word, None)) (sym e ∙ f))

-- a list of one has that one alone
pub only_one : {A : Type 0} (a d : A) (j : ℕ) → get_elem? (a ∷ []) j ≡ some d → (j ≡ 0) × (a ≡ d)
only_one a d zero e = (refl, some-injective a d e)
only_one a d (suc j) e = absurd (some-ne-none d (sym e))

module _ {A : Type 0} (f : A → ℕ) where
  pub total_set : (l : List A) (i : ℕ) (v w : A) → get_elem? l i ≡ some v → total f (set l i w) + f v ≡ total f l + f w
  total_set [] i v w e = absurd (some-ne-none v (sym e))
  total_set (x ∷ xs) zero v w e = let s : f x ≡ f v = ap f (some-injective x v e) in omega arith
  total_set (x ∷ xs) (suc i) v w e = let t = total_set xs i v w e in omega arith

  pub total_snoc : (l : List A) (w : A) → total f (l ++ w ∷ []) ≡ total f l + f w
  total_snoc [] w = omega arith
  total_snoc (x ∷ xs) w = let t = total_snoc xs w in omega arith

  pub total_has : (l : List A) (i : ℕ) (v : A) → get_elem? l i ≡ some v → f v ≤ total f l
  total_has [] i v e = absurd (some-ne-none v (sym e))
  total_has (x ∷ xs) zero v e = let s : f x ≡ f v = ap f (some-injective x v e) in omega arith
  total_has (x ∷ xs) (suc i) v e = let t = total_has xs i v e in omega arith

-- what holds of each view still does once one of them is w
pub each_set : {A : Type 0} (P : ℕ → A → Type 0) (views : List A) (me : ℕ) (w : A) → ((j : ℕ) (d : A) → j ≢ me → get_elem? views j ≡ some d → P j d) → P me w
    → (j : ℕ) (d : A) → get_elem? (set views me w) j ≡ some d → P j d
each_set {A} P views me w others mine j d e = ⊎_elim (λ (x : (j ≡ me) × (w ≡ d)). subst (λ (y : ℕ × A). P y.0 y.1) (λ i. (sym x.0 i, x.1 i)) mine)
    (λ (x : (j ≢ me) × (get_elem? views j ≡ some d)). others j d x.0 x.1) (at_set views me j w d e)

module _ {A : Type 0} where
  pub set_there : (l : List A) (i : ℕ) (v w : A) → get_elem? l i ≡ some v → get_elem? (set l i w) i ≡ some w
  set_there [] i v w e = absurd (some-ne-none v (sym e))
  set_there (x ∷ xs) zero v w e = refl
  set_there (x ∷ xs) (suc i) v w e = set_there xs i v w e

  pub at_one : (l : List A) (i j : ℕ) (v w : A) → get_elem? l i ≡ some v → j ≡ i → get_elem? l j ≡ some w → v ≡ w
  at_one l i j v w e is f = some-injective v w (sym e ∙ ap (get_elem? l) (sym is) ∙ f)

pub total_append : {A : Type 0} (f : A → ℕ) (xs ys : List A) → total f (xs ++ ys) ≡ total f xs + total f ys
total_append f [] ys = omega arith
total_append f (x ∷ xs) ys = let t = total_append f xs ys in omega arith

pub total_none : {A : Type 0} (f : A → ℕ) (xs : List A) → ((i : ℕ) (v : A) → get_elem? xs i ≡ some v → f v ≡ 0) → total f xs ≡ 0
total_none f [] none' = refl
total_none f (x ∷ xs) none' = let a = none' zero x refl in let b = total_none f xs (λ i v e. none' (suc i) v e) in omega arith

-- where f of each but one is 0, the total is f of that one
pub total_one : {A : Type 0} (f : A → ℕ) (xs : List A) (i : ℕ) (v : A) → get_elem? xs i ≡ some v → ((j : ℕ) (w : A) → j ≢ i → get_elem? xs j ≡ some w → f w ≡ 0) → total f xs ≡ f v
total_one f [] i v e others = absurd (some-ne-none v (sym e))
total_one f (x ∷ xs) zero v e others = let s : f x ≡ f v = ap f (some-injective x v e) in let t = total_none f xs (λ j w e. others (suc j) w (λ h. omega arith) e) in omega arith
total_one f (x ∷ xs) (suc i) v e others = let a = others zero x (λ h. omega arith) refl in let t = total_one f xs i v e (λ j w o e. others (suc j) w (λ h. o (omega arith)) e) in omega arith
