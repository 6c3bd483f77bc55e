use Rattle.std.proofs.Common.{[]}
use Rattle.std.specs.List.{cons_option}
use Rattle.std.proofs.lemmas.Result.{on_ok_weaker}
use Rattle.ix_cluster.specs.BankSteps.{Arrive, Arrives}
use Rattle.ix_table.specs.Sights.{sight_of}
use Rattle.ix_workers.proofs.Doing.{for_plan, arrival_done}
use Rattle.ix_workers.proofs.steps.do_arrive.Goals as goal

pub returns-clause-done : goal.returns-clause-done
returns-clause-done g c =
    let old = sight_of c.args.pass.now in
    let new = sight_of c.arrive.new.pass in
    let made = for_plan c.args.table.now.plan.now c.args.plan.now old (Arrive c.args.sub) (Arrives c.in_ok-arrived.arrived) new c.requires.plan c.in_ok-arrived.ensures.step in
    on_ok_weaker c.append.result
    (λ e. arrival_done c.args.plan.now old new c.args.owed.now.items c.append.new.owed.items c.args.sub c.in_ok-arrived.arrived (cons_option c.fresh_claim.result []) made c.fresh_claim.ensures e)
    c.append.ensures
