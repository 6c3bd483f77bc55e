use Rattle.std.proofs.Common.{rules, arith, remove}
use Rattle.ix_cluster.specs.Firsts.{firsts_of}
use Rattle.ix_cluster.specs.Lists.{cluster}
use Rattle.ix_cluster.specs.Steps.{end_of, edge_is_first, edge_answer}
use Rattle.ix_closure.specs.Follows.{claims_at, arrival}
use Rattle.ix_closure.proofs.Lists.Appends.{two_appends}
use Rattle.ix_closure.proofs.Lists.ListCounts.{length_filter_map}
use Rattle.ix_closure.proofs.steps.do_edge.Goals as goal

pub overflow_add-alternatives : goal.overflow_add-alternatives
overflow_add-alternatives c =
    let few = length_filter_map (end_of (cluster c.args.cluster.rule c.args.cluster.at)) c.args.bank.now.log in
    omega (arith, few, c.end_count.ensures, c.fact_count.ensures.count, c.fact_count.ensures.bounded)

pub returns-clause-owed : goal.returns-clause-owed
returns-clause-owed c =
    two_appends c.push_ends.new.owed.items c.push_opened.new.owed.items c.remove.new.self.items (remove c.args.owed.now.items c.args.n) c.in_ok-opened.opened.first
    (edge_is_first c.args.bank.now.log c.args.cluster.rule c.args.cluster.at c.args.edge.slot c.args.edge.left) (claims_at c.args.cluster.at (firsts_of c.args.plan.now c.args.cluster.rule)) (λ e. arrival c.args.cluster.at e c.args.edge) c.as_slice.result.now
    (edge_answer c.args.bank.now.log c.args.cluster.rule c.args.cluster.at c.args.edge.slot c.args.edge.left)
    c.push_ends.ensures.items (search rules) (search rules) (search rules) (search rules)
