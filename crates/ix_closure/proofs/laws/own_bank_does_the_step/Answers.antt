use Rattle.std.proofs.Common.{[], refl, arith}
use Rattle.ix_closure.specs.declared.owed.Owed.TheVariants.{End}
use Rattle.ix_closure.proofs.laws.own_bank_does_the_step.Goals as goal

pub returns-clause-own : goal.returns-clause-own
returns-clause-own c = record { step = End 0 1 1; taken = refl; bank = record { log = []; handed = 0 }; there = refl; done = refl; more = []; follows = refl; owed = refl; bounded = omega arith }
