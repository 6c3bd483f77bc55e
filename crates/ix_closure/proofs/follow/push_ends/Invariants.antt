use Rattle.std.proofs.Common.{◌≡◌, ◌++◌, map, take}
use Rattle.std.specs.Vec.{vec_capacity}
use Rattle.ix_closure.specs.Follows.{arrival}
use Rattle.ix_closure.proofs.follow.push_ends.Given as goal

abbrev pub invariant-loop-end : goal.invariant-loop-end
invariant-loop-end l = record {
  items : l.owed.items ≡ l.initial.owed.items ++ map (λ e. arrival l.at e l.edge) (take l.end-index l.ends);
  capacity : vec_capacity l.owed ≡ vec_capacity l.initial.owed;
}
