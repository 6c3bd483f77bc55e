use Rattle.ix_closure.specs.Additions.{Adds, IsOfFirst}
use Rattle.ix_closure.specs.Brought.{IsBroughtBy, Lacks}
use Rattle.ix_closure.specs.Quantity.{same_step}
use Rattle.ix_closure.proofs.adopt.note_bank.Given as goal

abbrev pub invariant-loop-n : goal.invariant-loop-n
invariant-loop-n l = Adds same_step (IsOfFirst l.bank.log (λ f. Lacks l.banks.banks.items (IsBroughtBy l.plan l.banks.banks.items f)) l.n) l.initial.missing.keys l.missing.keys
