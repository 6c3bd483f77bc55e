use Rattle.std.proofs.Common.{ℕ, List, [], ◌∷◌, length, Option, refl, sym, ap, arith}
use Rattle.ix_rows.specs.declared.view.View.{View}
use Rattle.ix_rows.proofs.Counts.{some_is, some_none}
use Rattle.ix_rows.proofs.Logs.{begins_all, begins_length}
use Rattle.ix_rows.proofs.laws.tries_get_a_place.Goals as goal

pub returns-clause-got : goal.returns-clause-got
returns-clause-got c = (7 ∷ [], 3, refl, refl, refl, omega arith, begins_all (7 ∷ []))

pub returns-clause-other_place : goal.returns-clause-other_place
returns-clause-other_place c = λ h. let is = some_is 0 1 (ap (λ (v : View ℕ ℕ). v.place) h.2) in omega arith

pub returns-clause-stale : goal.returns-clause-stale
returns-clause-stale c = λ h. let took = ap (λ (v : View ℕ ℕ). length v.took) h.2 in let long = begins_length h.0 (7 ∷ []) h.6 in omega arith

pub returns-clause-too_long : goal.returns-clause-too_long
returns-clause-too_long c = λ h. let took = ap (λ (v : View ℕ ℕ). length v.took) h.2 in let topic = some_is 3 h.1 h.4 in let few = h.5 in omega arith

pub returns-clause-busy : goal.returns-clause-busy
returns-clause-busy c = ((λ idle. absurd (idle refl)), (λ _. refl))

pub returns-clause-not_busy : goal.returns-clause-not_busy
returns-clause-not_busy c = λ h. some_none 0 (ap (λ (v : View ℕ ℕ). v.place) (h.0 (λ e. omega arith)).2)

pub returns-clause-not_free : goal.returns-clause-not_free
returns-clause-not_free c = λ h. some_none 0 (sym (ap (λ (v : View ℕ ℕ × List (ℕ × Option (List ℕ))). v.0.place) (h.1 refl)))
