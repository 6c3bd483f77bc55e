use Rattle.std.proofs.Common.{◌≡◌, ◌++◌, map, take}
use Rattle.std.specs.Vec.{vec_capacity}
use Rattle.ix_closure.specs.Follows.{arrival}
use Rattle.ix_closure.proofs.follow.push_edges.Given as goal

abbrev pub invariant-loop-edge : goal.invariant-loop-edge
invariant-loop-edge l = record {
  items : l.owed.items ≡ l.initial.owed.items ++ map (arrival l.at l.end) (take l.edge-index l.edges);
  capacity : vec_capacity l.owed ≡ vec_capacity l.initial.owed;
}
