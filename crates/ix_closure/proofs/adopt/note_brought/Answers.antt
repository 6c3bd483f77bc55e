use Rattle.std.proofs.Common.{sym, subst, OnOk}
use Rattle.ix_cluster.specs.declared.fact.Fact.{Fact}
use Rattle.ix_closure.specs.Additions.{Adds}
use Rattle.ix_closure.specs.Brought.{IsBroughtBy, Lacks}
use Rattle.ix_closure.specs.Due.{IsRecorded, claim}
use Rattle.ix_closure.specs.Quantity.{same_step}
use Rattle.ix_closure.proofs.adopt.note_brought.Goals as goal

pub note-requires-clause-follows : goal.note-requires-clause-follows
note-requires-clause-follows c = claim c.in-Desc.slot c.in-Desc.left c.in-Desc.pos (subst (IsRecorded c.args.banks.now.banks.items) c.in-Desc.is c.requires.recorded)

pub returns-in-Desc : goal.returns-in-Desc
returns-in-Desc c =
    subst (λ (f : Fact). OnOk c.note.result (Adds same_step (Lacks c.args.banks.now.banks.items (IsBroughtBy c.args.plan.now c.args.banks.now.banks.items f)) c.args.missing.now.keys c.note.new.missing.keys)) (sym c.in-Desc.is) c.note.ensures

pub returns-in-Claim : goal.returns-in-Claim
returns-in-Claim c =
    subst (λ (f : Fact). OnOk c.note_next.result (Adds same_step (Lacks c.args.banks.now.banks.items (IsBroughtBy c.args.plan.now c.args.banks.now.banks.items f)) c.args.missing.now.keys c.note_next.new.missing.keys)) (sym c.in-Claim.is) c.note_next.ensures

pub returns-in-Edge : goal.returns-in-Edge
returns-in-Edge c =
    subst (λ (f : Fact). OnOk c.note_arrivals.result (Adds same_step (Lacks c.args.banks.now.banks.items (IsBroughtBy c.args.plan.now c.args.banks.now.banks.items f)) c.args.missing.now.keys c.note_arrivals.new.missing.keys)) (sym c.in-Edge.is) c.note_arrivals.ensures
