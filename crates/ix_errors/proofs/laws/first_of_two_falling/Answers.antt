use Rattle.std.proofs.Common.{◌≡◌, refl, ap, ℕ, List, [], ◌∷◌, arith}
use Rattle.ix_model.specs.Grammars.Breach.{IsRising}
use Rattle.ix_model.specs.Firsts.{IsFirstOf}
use Rattle.ix_model.proofs.Firsts.{at_front, behind, first_is_one}
use Rattle.ix_errors.proofs.laws.first_of_two_falling.Goals as goal

abbrev ranges : List (ℕ × ℕ)
ranges = (97, 98) ∷ (99, 97) ∷ (98, 97) ∷ []

abbrev Falls : ℕ → ℕ × ℕ → Type 0
Falls n bounds = ¬ (IsRising bounds)

second_falls : IsFirstOf Falls ranges (99, 97)
second_falls = behind Falls (97, 98) ((99, 97) ∷ (98, 97) ∷ []) (99, 97) (λ n. n (omega arith)) (at_front Falls (99, 97) ((98, 97) ∷ []) (λ l. omega (arith, l)))

pub returns-clause-first : goal.returns-clause-first
returns-clause-first c = second_falls

pub returns-clause-not_second : goal.returns-clause-not_second
returns-clause-not_second c = λ h. let e : (99, 97) ≡ (98, 97) = first_is_one Falls ranges (99, 97) (98, 97) second_falls h in omega (arith, ap (λ (x : ℕ × ℕ). x.0) e)
