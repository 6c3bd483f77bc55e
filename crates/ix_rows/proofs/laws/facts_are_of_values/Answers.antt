use Rattle.std.proofs.Common.{◌≡◌, ◌≤◌, ℕ, zero, suc, List, [], ◌∷◌, length, refl, sym, ap, arith}
use mathlib.Core.Option.{some, some-ne-none, some-injective}
use lib.ListN.{get_elem?}
use Rattle.ix_rows.proofs.Counts.{some_is, some_none, only_one}
use Rattle.ix_rows.proofs.laws.facts_are_of_values.Goals as goal

pub returns-clause-all : goal.returns-clause-all
returns-clause-all c = short
  where
    short : (place : ℕ) (value : List ℕ) → get_elem? ((7 ∷ []) ∷ [] ∷ []) place ≡ some value → length value ≤ 1
    short zero value e = let l = ap length (some-injective (7 ∷ []) value e) in omega arith
    short (suc zero) value e = let l = ap length (some-injective [] value e) in omega arith
    short (suc (suc place)) value e = absurd (some-ne-none value (sym e))

pub returns-clause-not_all : goal.returns-clause-not_all
returns-clause-not_all c = λ h. let l = h 1 (7 ∷ []) refl in omega arith

pub returns-clause-at_their_places : goal.returns-clause-at_their_places
returns-clause-at_their_places c = same
  where
    same : (place value : ℕ) → get_elem? (0 ∷ 1 ∷ []) place ≡ some value → value ≡ place
    same zero value e = sym (some-injective 0 value e)
    same (suc zero) value e = sym (some-injective 1 value e)
    same (suc (suc place)) value e = absurd (some-ne-none value (sym e))

pub returns-clause-at_others : goal.returns-clause-at_others
returns-clause-at_others c = λ h. let l = h 0 1 refl in omega arith

pub returns-clause-named : goal.returns-clause-named
returns-clause-named c = (1, refl, λ place value e. let is = only_one (7 ∷ []) value place e in let l = ap length is.1 in omega arith)

pub returns-clause-nobody : goal.returns-clause-nobody
returns-clause-nobody c = λ h. some_none h.0 h.1

pub returns-clause-one : goal.returns-clause-one
returns-clause-one c = (1, refl, omega arith)

pub returns-clause-too_long : goal.returns-clause-too_long
returns-clause-too_long c = λ h. let is = some_is 0 h.0 h.1 in let l = h.2 in omega arith

pub returns-clause-no_topic : goal.returns-clause-no_topic
returns-clause-no_topic c = λ h. some_none h.0 h.1
