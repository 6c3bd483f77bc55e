use Rattle.std.proofs.Common.{◌≡◌, ℕ, List, [], ◌∷◌, length, Option, Some, None, get_or, refl, sym, ap, arith}
use mathlib.Core.Option.{some-injective}
use lib.ListN.{get_elem?}
use Rattle.ix_rows.proofs.Counts.{some_is, some_none}
use Rattle.ix_rows.proofs.laws.slots_have_values.Goals as goal

pub returns-clause-two : goal.returns-clause-two
returns-clause-two c = refl

pub returns-clause-turned : goal.returns-clause-turned
returns-clause-turned c = λ h. let first = some_is {A = ℕ} 1 2 (ap (λ (l : List (Option ℕ)). get_or l 0 None) h) in omega arith

pub returns-clause-one_short : goal.returns-clause-one_short
returns-clause-one_short c = λ h. let long = ap length h in omega arith

pub returns-clause-all : goal.returns-clause-all
returns-clause-all c = λ place near. let first : 0 ≡ place = omega arith in (1, ap (get_elem? (Some 1 ∷ [])) (sym first))

pub returns-clause-hole : goal.returns-clause-hole
returns-clause-hole c = λ h. let second = h 1 (omega arith) in some_none second.0 (some-injective None (Some second.0) second.1)
