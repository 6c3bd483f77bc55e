-- The first member of an ascending list that has a property.
use Rattle.std.proofs.Common.{◌≡◌, sym, subst, ◌∙◌, ◌⊎◌, ◌+◌, ◌<◌, ◌≤◌, ap, ℕ, List, length, arith, get_or}
use Rattle.std.proofs.lemmas.Bool.{cases_order}
use Rattle.std.proofs.lemmas.List.{get_or_default}
use mathlib.Core.Logic.{inl, inr}
use Rattle.std.specs.List.{Contains}

module _ (ks : List ℕ) (P : ℕ → Type 0) where
  -- none of the first members has it
  abbrev pub NoneBefore : ℕ → Type 0
  NoneBefore at = (n : ℕ) → n < at → P (get_or ks n 0) → ⊥

  pub none_yet : NoneBefore 0
  none_yet n h p = omega (arith, h)

  pub none_so_far : (at : ℕ) → NoneBefore at → (P (get_or ks at 0) → ⊥) → NoneBefore (at + 1)
  none_so_far at none not_this n h p = by_order (cases_order n at)
    where
      by_order : (n ≡ at) ⊎ ((n < at) ⊎ (at < n)) → ⊥
      by_order (inl q) = not_this (subst (λ (z : ℕ). P (get_or ks z 0)) q p)
      by_order (inr (inl q)) = none n q p
      by_order (inr (inr q)) = omega (arith, h, q)

  pub none_at_all : (at : ℕ) → length ks ≤ at → NoneBefore at → (k : ℕ) → Contains ks k → P k → ⊥
  none_at_all at past none k (n, h, e) p = none n (omega (arith, past, h)) (subst P (sym (get_or_default ks n 0 k h ∙ e)) p)

  -- where none but the last can have it, a member that has it is the last
  pub last_of_all : (at : ℕ) → length ks ≤ at + 1 → NoneBefore at → (k : ℕ) → Contains ks k → P k → (at < length ks) × (get_or ks at 0 ≡ k)
  last_of_all at past none k (n, h, e) p = by_order (cases_order n at)
    where
      here : get_or ks n 0 ≡ k
      here = get_or_default ks n 0 k h ∙ e

      by_order : (n ≡ at) ⊎ ((n < at) ⊎ (at < n)) → (at < length ks) × (get_or ks at 0 ≡ k)
      by_order (inl q) = (omega (arith, q, h), sym (ap (λ (z : ℕ). get_or ks z 0) q) ∙ here)
      by_order (inr (inl q)) = absurd (none n q (subst P (sym here) p))
      by_order (inr (inr q)) = absurd (omega (arith, h, q, past))

  -- no member before the first that has it
  pub none_less : (at : ℕ) → ((i j : ℕ) → i < j → j < length ks → get_or ks i 0 < get_or ks j 0) → NoneBefore at → (k : ℕ) → k < get_or ks at 0 → Contains ks k → P k → ⊥
  none_less at rising none k less (n, h, e) p = by_order (cases_order n at)
    where
      here : get_or ks n 0 ≡ k
      here = get_or_default ks n 0 k h ∙ e

      by_order : (n ≡ at) ⊎ ((n < at) ⊎ (at < n)) → ⊥
      by_order (inl q) = omega (arith, less, here, ap (λ (z : ℕ). get_or ks z 0) q)
      by_order (inr (inl q)) = none n q (subst P (sym here) p)
      by_order (inr (inr q)) = omega (arith, less, here, rising at n q h)
