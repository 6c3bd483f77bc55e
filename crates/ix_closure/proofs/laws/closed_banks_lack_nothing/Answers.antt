use Rattle.std.proofs.Common.{refl, rules, arith}
use Rattle.ix_cluster.proofs.Members.{none_has}
use Rattle.ix_closure.specs.declared.owed.Owed.TheVariants.{Claim, End}
use Rattle.ix_closure.specs.Due.{claim, ends}
use Rattle.ix_closure.proofs.Small.SmallStates.{nothing_ended_tidy}
use Rattle.ix_closure.proofs.Small.SmallSteps.{nothing_last}
use Rattle.ix_closure.proofs.laws.closed_banks_lack_nothing.Goals as goal

pub returns-clause-ended : goal.returns-clause-ended
returns-clause-ended c = λ step h. none_has step (nothing_ended_tidy.balanced.missing step h)

pub returns-clause-unclaimed : goal.returns-clause-unclaimed
returns-clause-unclaimed c = λ h. h (Claim 0 0 0) (claim 0 0 0 (1, omega arith, refl), search rules)

pub returns-clause-no_end : goal.returns-clause-no_end
returns-clause-no_end c = λ h. h (End 0 0 0) (ends 0 0 0 0 (3, omega arith, refl) nothing_last, search rules)
