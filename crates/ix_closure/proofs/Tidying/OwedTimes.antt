-- How often a step is owed.
use Rattle.std.proofs.Common.{◌≡◌, ℕ, ◌+◌, ◌≤◌, true, false, cond, List, [], ◌∷◌, ◌++◌, remove, Contains, Some, slice_get, sym, ap, subst, inl, inr, arith}
use Rattle.std.proofs.lemmas.Bool.{false_from_ne_true}
use Rattle.ix_cluster.proofs.CountBy.{count_cons, count_append, count_none}
use Rattle.ix_cluster.proofs.FactLemmas.{same_fact-true, same_fact-refl}
use Rattle.ix_cluster.proofs.Members.{either_has, none_has}
use Rattle.ix_closure.specs.declared.owed.Owed.{Owed}
use Rattle.ix_closure.specs.declared.owed.Owed.TheVariants.{Claim, Edge, End, Arrive}
use Rattle.ix_closure.specs.Follows.{fact_of}
use Rattle.ix_closure.specs.Quantity.{same_step, times}
use Rattle.ix_closure.proofs.Lists.ListCounts.{count_remove, count_some}
use Rattle.ix_closure.proofs.Lists.OnceEach.{IsOnceEach}

-- ---- steps

-- steps that record one fact are the same
pub fact_of_same : (a b : Owed) → fact_of a ≡ fact_of b → a ≡ b
fact_of_same (Claim s l p) (Claim s' l' p') e = cc
fact_of_same (Edge r k s l) (Edge r' k' s' l') e = cc
fact_of_same (End r k e') (End r' k' e'') e = cc
fact_of_same (Arrive sub) (Arrive sub') e = cc
fact_of_same a b e = absurd (cc)

pub same_step_true : (a b : Owed) → same_step a b ≡ true → a ≡ b
same_step_true a b e = fact_of_same a b (same_fact-true (fact_of a) (fact_of b) e)

pub same_step_refl : (a : Owed) → same_step a a ≡ true
same_step_refl a = same_fact-refl (fact_of a)

same_step_false : (a b : Owed) → (a ≡ b → ⊥) → same_step a b ≡ false
same_step_false a b apart = false_from_ne_true (same_step a b) (λ t. apart (same_step_true a b t))

-- ---- how often they are owed

-- a step that is owed is owed at least once, and one that is not is owed no times
pub times_some : (xs : List Owed) (x : Owed) → Contains xs x → 1 ≤ times xs x
times_some xs x c = count_some (same_step x) xs x (same_step_refl x) c

pub times_none : (xs : List Owed) (x : Owed) → (Contains xs x → ⊥) → times xs x ≡ 0
times_none xs x none = count_none (same_step x) xs (λ y c. same_step_false x y (λ e. none (subst (Contains xs) (sym e) c)))

pub times_append : (xs ys : List Owed) (x : Owed) → times (xs ++ ys) x ≡ times xs x + times ys x
times_append xs ys x = count_append (same_step x) xs ys

-- a step that is taken out is owed once less, and each other as often as before
pub times_taken : (xs : List Owed) (n : ℕ) (x : Owed) → slice_get xs n ≡ Some x → times (remove xs n) x + 1 ≡ times xs x
times_taken xs n x e = omega (arith, count_remove (same_step x) xs n x e, ap {B = ℕ} (λ b. cond b 1 0) (same_step_refl x))

pub times_left : (xs : List Owed) (n : ℕ) (y x : Owed) → slice_get xs n ≡ Some y → (x ≡ y → ⊥) → times (remove xs n) x ≡ times xs x
times_left xs n y x e apart = omega (arith, count_remove (same_step x) xs n y e, ap {B = ℕ} (λ b. cond b 1 0) (same_step_false x y apart))

-- a step that is owed alone is owed once
pub times_one : (x : Owed) → times (x ∷ []) x ≡ 1
times_one x = omega (arith, ap {B = ℕ} (λ b. cond b 1 0) (same_step_refl x))

-- where each step stands once it is owed once
pub times_once : (xs : List Owed) (x : Owed) → IsOnceEach xs → Contains xs x → times xs x ≡ 1
unfolding IsOnceEach
times_once [] x h c = absurd (none_has x c)
times_once (y ∷ ys) x h c = elim (either_has y ys x c) [
  | inl e ↦
      let none = times_none ys x (λ r. h.0 (subst (Contains ys) (sym e) r)) in
      omega (arith, count_cons (same_step x) y ys, none, ap {B = ℕ} (λ z. cond (same_step x z) 1 0) e, ap {B = ℕ} (λ b. cond b 1 0) (same_step_refl x))
  | inr r ↦
      let other = same_step_false x y (λ e. h.0 (subst (Contains ys) e r)) in
      omega (arith, count_cons (same_step x) y ys, times_once ys x h.1 r, ap {B = ℕ} (λ b. cond b 1 0) other)
]
