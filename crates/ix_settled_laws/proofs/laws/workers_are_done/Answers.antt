use Rattle.std.proofs.Common.{[], ◌∷◌, refl, arith}
use Rattle.ix_cluster.proofs.Members.{first_has, none_has}
use Rattle.ix_cluster.specs.declared.fact.Fact.TheVariants as fact
use Rattle.ix_closure.specs.declared.owed.Owed.TheVariants.{Claim}
use Rattle.ix_closure.specs.Examples.{nothing_called, nothing_closed}
use Rattle.ix_rows.proofs.Logs.{begins_length}
use Rattle.ix_settled_laws.specs.Examples.{leader}
use Rattle.ix_settled_laws.proofs.Small.{finisher, finisher_done, not_answered}
use Rattle.ix_settled_laws.proofs.laws.workers_are_done.Goals as goal

pub returns-clause-done : goal.returns-clause-done
returns-clause-done c = finisher_done

pub returns-clause-nobody : goal.returns-clause-nobody
returns-clause-nobody c = λ d. let a = d.answered 0 0 _ (fact.Called 0 0) refl refl in none_has a.0 a.1

pub returns-clause-owes : goal.returns-clause-owes
returns-clause-owes c = λ d. let e = d.nothing (leader (Claim 0 0 0 ∷ [])) (first_has (leader (Claim 0 0 0 ∷ [])) []) in absurd (cc e)

pub returns-clause-not_answered : goal.returns-clause-not_answered
returns-clause-not_answered c = not_answered

pub returns-clause-false_sight : goal.returns-clause-false_sight
returns-clause-false_sight c = λ d. let long = begins_length nothing_called nothing_closed (d.begin (finisher 5) (first_has (finisher 5) []) 0 _ refl) in absurd (omega (arith, long))
