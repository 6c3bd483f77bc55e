use Rattle.std.proofs.Common.{ℕ, [], ◌∷◌, ◌≡◌, refl, arith}
use Rattle.ix_model.specs.Closure.Counting.{HasCount}
use Rattle.ix_figure_laws.proofs.CountsOnce.{count_is_one}
use Rattle.ix_engine.proofs.SmallCounts.{lists_zero}
use Rattle.ix_engine.proofs.laws.things_are_counted_or_not.Goals as goal

one : HasCount (λ (n : ℕ). n ≡ 0) 1
one = (0 ∷ [], lists_zero, refl)

pub returns-clause-one : goal.returns-clause-one
returns-clause-one c = one

pub returns-clause-too_few : goal.returns-clause-too_few
returns-clause-too_few c = λ h. omega (arith, count_is_one (λ (n : ℕ). n ≡ 0) 0 1 h one)

pub returns-clause-too_many : goal.returns-clause-too_many
returns-clause-too_many c = λ h. omega (arith, count_is_one (λ (n : ℕ). n ≡ 0) 2 1 h one)

pub returns-clause-listed : goal.returns-clause-listed
returns-clause-listed c = lists_zero

pub returns-clause-left_out : goal.returns-clause-left_out
returns-clause-left_out c = λ h. absurd (cc (h.whole 0 refl).1)

pub returns-clause-another : goal.returns-clause-another
returns-clause-another c = λ h. omega (arith, h.sound 1 1 refl)

pub returns-clause-twice : goal.returns-clause-twice
returns-clause-twice c = λ h. omega (arith, h.once 0 1 0 refl refl)
