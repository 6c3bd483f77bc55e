use Rattle.std.proofs.Common.{rules, refl, arith}
use Rattle.ix_cluster.proofs.Members.{none_has}
use Rattle.ix_closure.specs.declared.owed.Owed.TheVariants.{Claim}
use Rattle.ix_closure.specs.Due.{claim}
use Rattle.ix_closure.proofs.Small.SmallStates.{nothing_begun_tidy, nothing_claimed_tidy, nothing_ended_tidy}
use Rattle.ix_closure.proofs.laws.reached_states_are_tidy.Goals as goal

pub returns-clause-begun : goal.returns-clause-begun
returns-clause-begun c = nothing_begun_tidy

pub returns-clause-claimed : goal.returns-clause-claimed
returns-clause-claimed c = nothing_claimed_tidy

pub returns-clause-ended : goal.returns-clause-ended
returns-clause-ended c = nothing_ended_tidy

pub returns-clause-forgotten : goal.returns-clause-forgotten
returns-clause-forgotten c = λ h. none_has (Claim 0 0 0) (h.balanced.missing (Claim 0 0 0) (claim 0 0 0 (1, omega arith, refl), search rules))
