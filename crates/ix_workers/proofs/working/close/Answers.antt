use Rattle.std.proofs.Common.{rules, ◌≡◌, false}
use Rattle.ix_settled_laws.proofs.Settling.{settled_closure}
use Rattle.ix_workers.proofs.working.close.Goals as goal

-- what no worker left undone
pub returns-clause-closure : goal.returns-clause-closure
returns-clause-closure g c =
    let worked = c.in_ok-banks.field-0 in
    let full : worked.short ≡ false = search rules in
    settled_closure c.args.plan.now worked.banks.banks.items (c.in_ok-banks.ensures.settled full)
