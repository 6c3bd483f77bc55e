use Rattle.std.proofs.Common.{subst, List}
use Rattle.std.specs.List.Sorted.{IsPermutation}
use Rattle.ix_subtrees.specs.declared.node.Node.{Node}
use Rattle.ix_subtrees.proofs.Orders.{keys_sorted}
use Rattle.ix_subtrees.proofs.nodes.nodes_of.Goals as goal

pub returns : goal.returns
returns c = record {
  order = keys_sorted c.sort_unstable.new.self.items c.sort_unstable.ensures.sorted;
  same = subst (λ (z : List Node). IsPermutation z c.sort_unstable.new.self.items) c.in_ok-nodes.ensures c.sort_unstable.ensures.permutation;
}
