use Rattle.std.proofs.Common.{rules, refl}
use Rattle.ix_cluster.specs.BankSteps.{AddEdge, Opens}
use Rattle.ix_cluster.specs.Firsts.{firsts_of}
use Rattle.ix_closure.specs.Follows.{arrival, claims_at}
use Rattle.ix_closure.proofs.Lists.Appends.{two_appends}
use Rattle.ix_table.specs.Sights.{sight_of}
use Rattle.ix_workers.proofs.Doing.{for_plan, edge_done, edge_rule, edge_further}
use Rattle.ix_workers.proofs.steps.do_edge.Goals as goal

pub alt_count-requires : goal.alt_count-requires
alt_count-requires g c = edge_rule c.args.plan.now c.slot_count.ensures.planned c.args.cluster.rule c.args.cluster.at c.args.edge.slot c.args.edge.left c.requires.closed

pub push_opened-requires-clause-rule : goal.push_opened-requires-clause-rule
push_opened-requires-clause-rule g c = edge_rule c.args.plan.now c.slot_count.ensures.planned c.args.cluster.rule c.args.cluster.at c.args.edge.slot c.args.edge.left c.requires.closed

pub push_ends-requires-clause-further : goal.push_ends-requires-clause-further
push_ends-requires-clause-further g c = edge_further c.args.plan.now c.slot_count.ensures.planned c.args.cluster.rule c.args.cluster.at c.args.edge.slot c.args.edge.left c.requires.closed

pub returns-clause-done : goal.returns-clause-done
returns-clause-done g c =
    let k = c.args.cluster in
    let e = c.args.edge in
    let old = sight_of c.args.pass.now in
    let new = sight_of c.add_edge.new.pass in
    let opened = c.in_ok-opened.opened in
    edge_done c.args.plan.now old new c.args.owed.now.items c.push_ends.new.owed.items k.rule k.at e.slot e.left opened.first opened.ends.items
    (for_plan c.args.table.now.plan.now c.args.plan.now old (AddEdge k.rule k.at e.slot e.left) (Opens opened.first opened.ends.items) new c.requires.plan c.in_ok-opened.ensures.step)
    (two_appends c.push_ends.new.owed.items c.push_opened.new.owed.items c.reserve.new.self.items c.args.owed.now.items opened.first opened.first (claims_at k.at (firsts_of c.args.plan.now k.rule)) (λ z. arrival k.at z e) c.as_slice.result.now opened.ends.items
    (search rules) (search rules) (search rules) refl (search rules))
