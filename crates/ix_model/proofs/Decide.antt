-- Questions that have an answer, and the least number of which something holds.
-- Proofs here have no excluded middle: what a proof splits on has to be answered first.
use Rattle.std.proofs.Common.{◌≡◌, refl, sym, subst, ◌⊎◌, ◌<◌, ℕ, zero, suc, Bool, true, false, arith}
use Rattle.std.specs.Bool.{Decides}
use mathlib.Core.Logic.{inl, inr}

-- it holds, or it does not
abbrev pub Answered : Type 0 → Type 0
Answered X = X ⊎ (X → ⊥)

pub both : (X Y : Type 0) → Answered X → Answered Y → Answered (X × Y)
both X Y (inl x) (inl y) = inl (x, y)
both X Y (inr x) y = inr (λ h. x h.0)
both X Y (inl x) (inr y) = inr (λ h. y h.1)

pub all_three : (X Y Z : Type 0) → Answered X → Answered Y → Answered Z → Answered (X × Y × Z)
all_three X Y Z (inl x) (inl y) (inl z) = inl (x, y, z)
all_three X Y Z (inr x) y z = inr (λ h. x h.0)
all_three X Y Z (inl x) (inr y) z = inr (λ h. y h.1)
all_three X Y Z (inl x) (inl y) (inr z) = inr (λ h. z h.2)

pub either : (X Y : Type 0) → Answered X → Answered Y → Answered (X ⊎ Y)
either X Y (inl x) y = inl (inl x)
either X Y (inr x) (inl y) = inl (inr y)
either X Y (inr x) (inr y) = inr neither
  where
    neither : X ⊎ Y → ⊥
    neither (inl h) = x h
    neither (inr h) = y h

pub by_test : (X : Type 0) (b : Bool) → Decides b X → Answered X
by_test X true h = inl (h.0 refl)
by_test X false h = inr (λ x. cc (h.1 x))

-- ---- the least number

-- W holds of a number below n, and N of all before it; or N holds of all below n
abbrev pub Least : (ℕ → Type 0) → (ℕ → Type 0) → ℕ → Type 0
Least W N n = ((k : ℕ) × (k < n) × W k × ((m : ℕ) → m < k → N m)) ⊎ ((k : ℕ) → k < n → N k)

below : (k n : ℕ) → k < suc n → (k < n) ⊎ (k ≡ n)
below k n h = grind (arith, h)

pub least : (W N : ℕ → Type 0) (n : ℕ) → ((k : ℕ) → k < n → W k ⊎ N k) → Least W N n
least W N zero f = inr (λ k h. absurd (omega (arith, h)))
least W N (suc n) f = one_more (least W N n (λ k h. f k (omega (arith, h))))
  where
    at_last : ((k : ℕ) → k < n → N k) → W n ⊎ N n → Least W N (suc n)
    at_last none (inl w) = inl (n, omega arith, w, none)
    at_last none (inr x) = inr (λ k h. each k (below k n h))
      where
        each : (k : ℕ) → (k < n) ⊎ (k ≡ n) → N k
        each k (inl h) = none k h
        each k (inr h) = subst N (sym h) x

    one_more : Least W N n → Least W N (suc n)
    one_more (inl x) = inl (x.0, omega (arith, x.1), x.2, x.3)
    one_more (inr none) = at_last none (f n (omega arith))
