use Rattle.std.proofs.Common.{◌≡◌, length, arith}
use Rattle.ix_cluster.specs.Seen.{Bank}
use Rattle.ix_cluster.proofs.Members.{nth_has}
use Rattle.ix_closure.specs.Brought.{IsBroughtBy, Lacks}
use Rattle.ix_closure.specs.Quantity.{same_step}
use Rattle.ix_closure.proofs.Adopting.AddedItems.{adds_next, adds_last}
use Rattle.ix_closure.proofs.Lists.ListMembers.{flat_has}
use Rattle.ix_closure.proofs.adopt.note_bank.Goals as goal

pub note_brought-requires-clause-recorded : goal.note_brought-requires-clause-recorded
note_brought-requires-clause-recorded c = flat_has (λ (b : Bank). b.log) c.args.banks.now.banks.items c.args.bank.now c.fact.result c.requires.among (nth_has c.args.bank.now.log c.loop-n.n c.fact.result c.fact.ensures)

pub loop-n-preserved : goal.loop-n-preserved
loop-n-preserved c =
    adds_next same_step c.args.bank.now.log (λ f. Lacks c.args.banks.now.banks.items (IsBroughtBy c.args.plan.now c.args.banks.now.banks.items f)) c.loop-n.n c.fact.result c.args.missing.now.keys c.loop-n.missing.keys c.note_brought.new.missing.keys
    c.fact.ensures c.loop-n.invariant c.in_ok-note_brought.ensures

pub returns : goal.returns
returns c =
    let len : length c.args.bank.now.log ≡ c.loop-n.n = omega (arith, c.fact_count-n-end.ensures.count, c.loop-n-test.false, c.loop-n.auto.n-end) in
    adds_last same_step c.args.bank.now.log (λ f. Lacks c.args.banks.now.banks.items (IsBroughtBy c.args.plan.now c.args.banks.now.banks.items f)) c.loop-n.n c.args.missing.now.keys c.loop-n.missing.keys len c.loop-n.invariant
