-- Beginnings of logs, and runs of numbers.
use Rattle.std.proofs.Common.{◌≡◌, ◌≢◌, ◌⊎◌, ℕ, zero, suc, ◌+◌, ◌<◌, ◌≤◌, ◌==◌, ◌&&◌, eqb, Bool, true, false, List, [], ◌∷◌, ◌++◌, length, refl, sym, ap, ap₂, ◌∙◌, subst, ⊎_elim, inl, inr, arith, append-nil, append_assoc, length-append, eq-eqb, ne_eqb}
use Rattle.std.specs.Prelude.{if◌then◌else◌}
use mathlib.Core.Logic.{dite}
use native.Mathlib.Decide.{ℕ_discrete}
use Rattle.ix_rows.specs.Beginnings.{Begins}
use Rattle.ix_rows.specs.Logs.{log_at, put_at, is_longer, longer, longest}
use Rattle.ix_rows.specs.Numbers.{run, hits, times}
use Rattle.ix_rows.proofs.Counts.{total_append}

module _ {A : Type 0} where
  tail : List A → List A
  tail [] = []
  tail (x ∷ xs) = xs

  head : A → List A → A
  head d [] = d
  head d (x ∷ xs) = x

  tails_are : (x y : A) (xs ys : List A) → x ∷ xs ≡ y ∷ ys → xs ≡ ys
  unfolding tail
  tails_are x y xs ys e = ap tail e

  heads_are : (x y : A) (xs ys : List A) → x ∷ xs ≡ y ∷ ys → x ≡ y
  unfolding head
  heads_are x y xs ys e = ap (head x) e

  pub begins_all : (xs : List A) → Begins xs xs
  begins_all xs = ([], sym (append-nil xs))

  pub begins_none : (xs : List A) → Begins xs []
  begins_none xs = (xs, refl)

  pub begins_further : (xs ys zs : List A) → Begins xs ys → Begins ys zs → Begins xs zs
  begins_further xs ys zs a b = (b.0 ++ a.0, a.1 ∙ ap (λ (z : List A). z ++ a.0) b.1 ∙ append_assoc zs b.0 a.0)

  pub begins_length : (xs ys : List A) → Begins xs ys → length ys ≤ length xs
  begins_length xs ys a = let e = ap length a.1 ∙ length-append ys a.0 in omega arith

  -- of two beginnings of one list, one begins with the other
  pub compared : (all xs ys : List A) → Begins all xs → Begins all ys → ((is_longer xs ys ≡ true) × Begins xs ys) ⊎ ((is_longer xs ys ≡ false) × Begins ys xs)
  compared all [] ys a b = inr (refl, begins_none ys)
  compared all (x ∷ xs) [] a b = inl (refl, begins_none (x ∷ xs))
  compared all (x ∷ xs) (y ∷ ys) a b =
      let both : x ∷ (xs ++ a.0) ≡ y ∷ (ys ++ b.0) = sym a.1 ∙ b.1 in let first = heads_are x y (xs ++ a.0) (ys ++ b.0) both in let others = tails_are x y (xs ++ a.0) (ys ++ b.0) both in
      ⊎_elim (λ (h : (is_longer xs ys ≡ true) × Begins xs ys). inl (h.0, (h.1.0, λ k. first k ∷ h.1.1 k)))
      (λ (h : (is_longer xs ys ≡ false) × Begins ys xs). inr (h.0, (h.1.0, λ k. sym first k ∷ h.1.1 k)))
      (compared (xs ++ a.0) xs ys (a.0, refl) (b.0, others))

  pub longer_begins : (all xs ys : List A) → Begins all xs → Begins all ys → Begins (longer xs ys) xs × Begins (longer xs ys) ys × Begins all (longer xs ys)
  longer_begins all xs ys a b = ⊎_elim
      (λ (h : (is_longer xs ys ≡ true) × Begins xs ys). subst (λ (c : Bool). Begins (if c then xs else ys) xs × Begins (if c then xs else ys) ys × Begins all (if c then xs else ys)) (sym h.0) (begins_all xs, h.1, a))
      (λ (h : (is_longer xs ys ≡ false) × Begins ys xs). subst (λ (c : Bool). Begins (if c then xs else ys) xs × Begins (if c then xs else ys) ys × Begins all (if c then xs else ys)) (sym h.0) (h.1, begins_all ys, b))
      (compared all xs ys a b)

  pub longer_none : (xs : List A) → xs ≡ longer xs []
  longer_none [] = refl
  longer_none (x ∷ xs) = refl

  pub longest_at : (as' bs : List (List A)) (m : ℕ) → log_at (longest as' bs) m ≡ longer (log_at as' m) (log_at bs m)
  longest_at [] bs m = refl
  longest_at (a ∷ xs) [] m = longer_none (log_at (a ∷ xs) m)
  longest_at (a ∷ xs) (b ∷ bs) zero = refl
  longest_at (a ∷ xs) (b ∷ bs) (suc m) = longest_at xs bs m

  -- where both are beginnings at each place, the longest begin with both
  pub longest_begins : (all : ℕ → List A) (as' bs : List (List A)) → ((m : ℕ) → Begins (all m) (log_at as' m) × Begins (all m) (log_at bs m))
      → (m : ℕ) → Begins (log_at (longest as' bs) m) (log_at as' m) × Begins (log_at (longest as' bs) m) (log_at bs m) × Begins (all m) (log_at (longest as' bs) m)
  longest_begins all as' bs both m = subst (λ (z : List A). Begins z (log_at as' m) × Begins z (log_at bs m) × Begins (all m) z) (sym (longest_at as' bs m)) (longer_begins (all m) (log_at as' m) (log_at bs m) (both m).0 (both m).1)

  pub put_here : (logs : List (List A)) (m : ℕ) (log : List A) → log_at (put_at logs m log) m ≡ log
  put_here [] zero log = refl
  put_here [] (suc m) log = put_here [] m log
  put_here (x ∷ xs) zero log = refl
  put_here (x ∷ xs) (suc m) log = put_here xs m log

  pub put_else : (logs : List (List A)) (m j : ℕ) (log : List A) → j ≢ m → log_at (put_at logs m log) j ≡ log_at logs j
  put_else [] zero zero log o = absurd (o refl)
  put_else [] zero (suc j) log o = refl
  put_else [] (suc m) zero log o = refl
  put_else [] (suc m) (suc j) log o = put_else [] m j log (λ e. o (ap suc e))
  put_else (x ∷ xs) zero zero log o = absurd (o refl)
  put_else (x ∷ xs) zero (suc j) log o = refl
  put_else (x ∷ xs) (suc m) zero log o = refl
  put_else (x ∷ xs) (suc m) (suc j) log o = put_else xs m j log (λ e. o (ap suc e))

  -- the logs, with this one at m
  abbrev pub updated : (ℕ → List A) → ℕ → List A → ℕ → List A
  updated logs m log j = if eqb j m then log else logs j

  pub updated_here : (logs : ℕ → List A) (m j : ℕ) (log : List A) → j ≡ m → updated logs m log j ≡ log
  updated_here logs m j log e = ap (λ (c : Bool). if c then log else logs j) (eq-eqb j m e)

  pub updated_else : (logs : ℕ → List A) (m j : ℕ) (log : List A) → j ≢ m → updated logs m log j ≡ logs j
  updated_else logs m j log o = ap (λ (c : Bool). if c then log else logs j) (ne_eqb j m o)

pub times_append : (m k : ℕ) (xs ys : List (ℕ × ℕ)) → times m k (xs ++ ys) ≡ times m k xs + times m k ys
times_append m k xs ys = total_append (hits m k) xs ys

pub run_on : (m a n l : ℕ) → run m a (n + l) ≡ run m a n ++ run m (a + n) l
run_on m a zero l = ap₂ (run m) (let e : a ≡ a + 0 = omega arith in e) (let e : 0 + l ≡ l = omega arith in e)
run_on m a (suc n) l = let e : suc n + l ≡ suc (n + l) = omega arith in let f : suc a + n ≡ a + suc n = omega arith in
    ap (run m a) e ∙ (λ i. (m, a) ∷ run_on m (suc a) n l i) ∙ ap (λ (z : ℕ). (m, a) ∷ (run m (suc a) n ++ run m z l)) f

pub times_elsewhere : (m j k a n : ℕ) → j ≢ m → times j k (run m a n) ≡ 0
times_elsewhere m j k a zero o = refl
times_elsewhere m j k a (suc n) o = let t = times_elsewhere m j k (suc a) n o in let z : hits j k (m, a) ≡ 0 = ap (λ (c : Bool). if c && (a == k) then 1 else 0) (ne_eqb m j (λ e. o (sym e))) in omega arith

-- a number outside the run does not stand in it
pub times_out : (m k a n : ℕ) → (k < a) ⊎ (a + n ≤ k) → times m k (run m a n) ≡ 0
times_out m k a zero outside = refl
times_out m k a (suc n) outside =
    let apart : a ≢ k = λ e. ⊎_elim (λ (low : k < a). absurd (omega arith)) (λ (high : a + suc n ≤ k). absurd (omega arith)) outside in
    let z : hits m k (m, a) ≡ 0 = ap₂ (λ (c d : Bool). if c && d then 1 else 0) (eq-eqb m m refl) (ne_eqb a k apart) in
    let further : (k < suc a) ⊎ (suc a + n ≤ k) = ⊎_elim (λ (low : k < a). inl (omega arith)) (λ (high : a + suc n ≤ k). inr (omega arith)) outside in
    let t = times_out m k (suc a) n further in omega arith

-- each number of the run stands in it once
pub times_in : (m k a n : ℕ) → a ≤ k → k < a + n → times m k (run m a n) ≡ 1
times_in m k a zero low high = absurd (omega arith)
times_in m k a (suc n) low high = dite (ℕ_discrete a k)
    (λ e. let z : hits m k (m, a) ≡ 1 = ap₂ (λ (c d : Bool). if c && d then 1 else 0) (eq-eqb m m refl) (eq-eqb a k e) in
    let below : (k < suc a) ⊎ (suc a + n ≤ k) = inl (omega arith) in let t = times_out m k (suc a) n below in omega arith)
    (λ o. let z : hits m k (m, a) ≡ 0 = ap₂ (λ (c d : Bool). if c && d then 1 else 0) (eq-eqb m m refl) (ne_eqb a k o) in let t = times_in m k (suc a) n (omega arith) (omega arith) in omega arith)
