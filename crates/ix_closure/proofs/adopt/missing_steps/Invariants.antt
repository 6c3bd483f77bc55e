use Rattle.std.proofs.Common.{[]}
use Rattle.ix_cluster.specs.Seen.{Bank}
use Rattle.ix_closure.specs.Additions.{Adds, IsOfSome, IsOfFirst}
use Rattle.ix_closure.specs.Brought.{IsBroughtBy, Lacks}
use Rattle.ix_closure.specs.Quantity.{same_step}
use Rattle.ix_closure.proofs.adopt.missing_steps.Given as goal

abbrev pub invariant-loop-bank : goal.invariant-loop-bank
invariant-loop-bank l = Adds same_step (IsOfFirst l.banks.banks.items (λ (bank : Bank). IsOfSome bank.log (λ f. Lacks l.banks.banks.items (IsBroughtBy l.plan l.banks.banks.items f))) l.bank-index) [] l.missing.keys
