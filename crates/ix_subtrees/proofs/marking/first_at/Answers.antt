use Rattle.std.proofs.Common.{rules}
use Rattle.std.specs.Ordering.{is_lt}
use Rattle.std.proofs.lemmas.List.Sorted.{IsPartitionPoint-from_clause}
use Rattle.ix_subtrees.specs.declared.node.Node.{Node}
use Rattle.ix_subtrees.specs.Orders.{key_cmp}
use Rattle.ix_subtrees.proofs.Orders.{key_total}
use Rattle.ix_subtrees.proofs.Points.{parted_before}
use Rattle.ix_subtrees.proofs.marking.first_at.Goals as goal

pub returns : goal.returns
returns c = record {
  within = c.partition_point.ensures.bound;
  point = IsPartitionPoint-from_clause (λ (n : Node). is_lt (key_cmp n.key c.args.key)) c.args.nodes.now _ c.partition_point.ensures.partitioned (parted_before key_total (λ (n : Node). n.key) c.args.nodes.now c.args.key c.requires) (λ a r q k. search rules);
}
