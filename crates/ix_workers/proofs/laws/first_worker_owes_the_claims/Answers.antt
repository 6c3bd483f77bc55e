use Rattle.std.proofs.Common.{length, refl, ap, arith}
use Rattle.ix_workers.proofs.laws.first_worker_owes_the_claims.Goals as goal

pub returns-clause-first : goal.returns-clause-first
returns-clause-first c = record { first = λ e. refl; other = λ h. absurd (omega (arith, h)) }

pub returns-clause-in_order : goal.returns-clause-in_order
returns-clause-in_order c = record { first = λ e. refl; other = λ h. absurd (omega (arith, h)) }

pub returns-clause-other : goal.returns-clause-other
returns-clause-other c = record { first = λ e. absurd (omega (arith, e)); other = λ h. refl }

pub returns-clause-first_owes_nothing : goal.returns-clause-first_owes_nothing
returns-clause-first_owes_nothing c = λ list. let e = ap length (list.first refl) in omega (arith, e)

pub returns-clause-first_owes_one : goal.returns-clause-first_owes_one
returns-clause-first_owes_one c = λ list. let e = ap length (list.first refl) in omega (arith, e)

pub returns-clause-other_order : goal.returns-clause-other_order
returns-clause-other_order c = λ list. let e = list.first refl in cc

pub returns-clause-other_owes_too : goal.returns-clause-other_owes_too
returns-clause-other_owes_too c = λ list. let e = ap length (list.other (omega arith)) in omega (arith, e)
