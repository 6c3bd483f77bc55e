use Rattle.std.proofs.Common.{◌≡◌, ◌≤◌, ◌<◌, ◌⊎◌, refl, sym, subst, [], ◌∷◌, ℕ, arith}
use Rattle.std.proofs.Math.Utf8.{scalar_cases}
use mathlib.Core.Logic.{inl, inr}
use Rattle.ix_model.specs.Matching.Ranges.{IsInRanges}
use Rattle.ix_examples.specs.SmallRules.{range}
use Rattle.ix_worked_examples.proofs.expansion.sets_over_characters.Goals as goal

pub returns-clause-digits : goal.returns-clause-digits
returns-clause-digits c = (range 48 57 ∷ [], refl, λ x h. (λ k. k, λ k. k))

no_nine : IsInRanges 57 (range 48 56 ∷ []) → ⊥
no_nine (inl h) = omega (arith, h.1)
no_nine (inr h) = h

pub returns-clause-one_less : goal.returns-clause-one_less
returns-clause-one_less c = λ h.
    let same : range 48 56 ∷ [] ≡ h.0 = cc h.1 in
    no_nine (subst (IsInRanges 57) (sym same) ((h.2 57 refl).1 (inl (omega arith, omega arith))))

both_ranges : (x : ℕ) → (x < 55296) ⊎ ((57344 ≤ x) × (x < 1114112)) → IsInRanges x (range 0 55295 ∷ range 57344 1114111 ∷ [])
both_ranges x (inl h) = inl (omega arith, omega (arith, h))
both_ranges x (inr h) = inr (inl (h.0, omega (arith, h.1)))

pub returns-clause-all : goal.returns-clause-all
returns-clause-all c = (range 0 55295 ∷ range 57344 1114111 ∷ [], refl, λ x h. (λ k n. n, λ n. both_ranges x (scalar_cases x h)))

no_zero : IsInRanges 0 (range 1 1114111 ∷ []) → ⊥
no_zero (inl h) = omega (arith, h.0)
no_zero (inr h) = h

pub returns-clause-not_all : goal.returns-clause-not_all
returns-clause-not_all c = λ h.
    let same : range 1 1114111 ∷ [] ≡ h.0 = cc h.1 in
    no_zero (subst (IsInRanges 0) (sym same) ((h.2 0 refl).1 (λ n. n)))
