use Rattle.std.proofs.Common.{◌≡◌, map, take}
use Rattle.ix_subtrees.specs.Subs.{node_for}
use Rattle.ix_subtrees.proofs.nodes.unsorted.Given as goal

abbrev pub invariant-loop-sub : goal.invariant-loop-sub
invariant-loop-sub l = l.nodes.items ≡ map (node_for l.places) (take l.sub-index l.subs)
