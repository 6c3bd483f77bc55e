use Rattle.std.proofs.lemmas.Result.{on_ok_weaker}
use Rattle.ix_closure.specs.declared.owed.Owed.TheVariants.{Claim}
use Rattle.ix_table.specs.Sights.{sight_of}
use Rattle.ix_settled_laws.specs.Done.{begins}
use Rattle.ix_settled_laws.proofs.Steps.{done_closed, taken_none}
use Rattle.ix_workers.proofs.DoneSteps.{one_step}
use Rattle.ix_workers.proofs.worker.do_hint.Goals as goal

pub returns-then-slot_count-slot-clause-works : goal.returns-then-slot_count-slot-clause-works
returns-then-slot_count-slot-clause-works g c = begins

pub returns-clause-works : goal.returns-clause-works
returns-clause-works g c =
    let w = c.args.worker.now in
    let step = Claim c.args.hint.slot c.args.hint.left c.args.hint.pos in
    on_ok_weaker c.do_claim.result
    (λ d. one_step c.args.plan.now (sight_of w.pass) w.owed.items step w.owed.items (sight_of c.do_claim.new.pass) c.do_claim.new.owed.items (taken_none w.owed.items step) d) c.do_claim.ensures.done

pub returns-clause-owed : goal.returns-clause-owed
returns-clause-owed g c =
    let w = c.args.worker.now in
    let step = Claim c.args.hint.slot c.args.hint.left c.args.hint.pos in
    on_ok_weaker c.do_claim.result
    (λ d. done_closed c.args.plan.now c.slot_count.ensures.planned (sight_of w.pass) w.owed.items step w.owed.items (sight_of c.do_claim.new.pass) c.do_claim.new.owed.items c.requires.owed (taken_none w.owed.items step) d) c.do_claim.ensures.done
