use Rattle.std.proofs.Common.{[], ◌∷◌, refl, inl, inr, arith}
use Rattle.ix_cluster.proofs.Members.{first_has, none_has}
use Rattle.ix_closure.specs.Examples.{nothing_called}
use Rattle.ix_rows.proofs.Logs.{begins_length}
use Rattle.ix_table.specs.Examples.{seen}
use Rattle.ix_settled_laws.specs.Examples.{once_claimed, claimer}
use Rattle.ix_settled_laws.specs.Joined.{none, one_more}
use Rattle.ix_settled_laws.proofs.Joining.{joins_know, joins_from, joins_have}
use Rattle.ix_settled_laws.proofs.Small.{joined_known}
use Rattle.ix_settled_laws.proofs.laws.joined_passes_leave_all.Goals as goal

pub returns-clause-none : goal.returns-clause-none
returns-clause-none c = none

pub returns-clause-one : goal.returns-clause-one
returns-clause-one c = one_more [] (seen nothing_called []) (claimer []) (seen once_claimed ((0, 3) ∷ [])) none refl joined_known

pub returns-clause-not_own : goal.returns-clause-not_own
returns-clause-not_own c = λ j. none_has (0, 3) (joins_have (seen nothing_called []) (claimer [] ∷ []) (seen once_claimed []) j 0 3 (inr (claimer [], first_has (claimer []) [], first_has (0, 3) [])))

pub returns-clause-not_known : goal.returns-clause-not_known
returns-clause-not_known c = λ j. let long = begins_length nothing_called once_claimed (joins_know (seen nothing_called []) (claimer [] ∷ []) (seen nothing_called ((0, 3) ∷ [])) j (claimer []) (first_has (claimer []) []) 0) in absurd (omega (arith, long))

pub returns-clause-of_nobody : goal.returns-clause-of_nobody
returns-clause-of_nobody c = λ j. elim (joins_from (seen nothing_called []) [] (seen once_claimed ((0, 3) ∷ [])) j 0 3 (first_has (0, 3) [])) [ inl h ↦ none_has (0, 3) h | inr s ↦ none_has s.0 s.1 ]
