use Rattle.std.proofs.Common.{rules}
use Rattle.ix_cluster.specs.BankSteps.{AddEnd, Meets}
use Rattle.ix_table.specs.Sights.{sight_of}
use Rattle.ix_workers.proofs.Doing.{for_plan, end_done, met_further}
use Rattle.ix_workers.proofs.steps.do_end.Goals as goal

pub push_edges-requires-clause-further : goal.push_edges-requires-clause-further
push_edges-requires-clause-further g c =
    let k = c.args.cluster in
    let old = sight_of c.args.pass.now in
    let new = sight_of c.add_end.new.pass in
    let edges = c.in_ok-edges.edges.items in
    met_further c.args.plan.now c.slot_count.ensures.planned old new k.rule k.at c.args.end edges c.as_slice.result.now c.requires.closed
    (for_plan c.args.table.now.plan.now c.args.plan.now old (AddEnd k.rule k.at c.args.end) (Meets edges) new c.requires.plan c.in_ok-edges.ensures.step) (search rules)

pub returns-clause-done : goal.returns-clause-done
returns-clause-done g c =
    let k = c.args.cluster in
    let old = sight_of c.args.pass.now in
    let new = sight_of c.add_end.new.pass in
    let edges = c.in_ok-edges.edges.items in
    end_done c.args.plan.now old new c.args.owed.now.items c.push_edges.new.owed.items k.rule k.at c.args.end edges
    (for_plan c.args.table.now.plan.now c.args.plan.now old (AddEnd k.rule k.at c.args.end) (Meets edges) new c.requires.plan c.in_ok-edges.ensures.step) (search rules)
