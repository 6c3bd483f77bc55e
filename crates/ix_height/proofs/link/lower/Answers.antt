use Rattle.std.proofs.Common.{rules}
use Rattle.std.specs.Prelude.{nat_lt}
use Rattle.std.proofs.lemmas.List.Sorted.{IsPartitionPoint-from_clause, IsPartitionedBy-ltb}
use Rattle.ix_height.proofs.Points.{less_before, not_less_from}
use Rattle.ix_height.specs.declared.link.Link.{Link}
use Rattle.ix_height.specs.Links.{by_node, link}
use Rattle.ix_height.proofs.link.lower.Goals as goal

pub returns : goal.returns
returns c =
    let links = c.args.links.now in
    let order = IsPartitionedBy-ltb by_node links c.args.node c.requires in
    let point = IsPartitionPoint-from_clause (λ (x : Link). nat_lt (by_node x) c.args.node) links _ c.partition_point.ensures.partitioned order (λ a r q k. search rules) in
    record {
      within = (search rules);
      below = less_before by_node links c.args.node c.partition_point.result (link 0 0) point;
      above = not_less_from by_node links c.args.node c.partition_point.result (link 0 0) point;
    }
