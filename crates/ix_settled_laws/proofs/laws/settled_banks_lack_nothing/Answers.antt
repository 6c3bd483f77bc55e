use Rattle.std.proofs.Common.{rules, arith, refl}
use Rattle.ix_cluster.proofs.Members.{none_has}
use Rattle.ix_closure.specs.declared.owed.Owed.TheVariants.{Claim, End}
use Rattle.ix_closure.specs.Due.{claim, ends}
use Rattle.ix_closure.proofs.Small.SmallStates.{nothing_ended_tidy}
use Rattle.ix_closure.proofs.Small.SmallSteps.{nothing_last}
use Rattle.ix_settled_laws.proofs.laws.settled_banks_lack_nothing.Goals as goal

pub returns-clause-settled : goal.returns-clause-settled
returns-clause-settled c = record { sound = nothing_ended_tidy.balanced.sound; none = λ x m. none_has x (nothing_ended_tidy.balanced.missing x m) }

pub returns-clause-not_claimed : goal.returns-clause-not_claimed
returns-clause-not_claimed c = λ s. s.none (Claim 0 0 0) (claim 0 0 0 (1, omega arith, refl), search rules)

pub returns-clause-not_ended : goal.returns-clause-not_ended
returns-clause-not_ended c = λ s. s.none (End 0 0 0) (ends 0 0 0 0 (3, omega arith, refl) nothing_last, search rules)
