use Rattle.std.proofs.Common.{◌≡◌, ◌+◌, ◌++◌, map}
use Rattle.std.specs.List.{range_with_len}
use Rattle.std.specs.Vec.{vec_len, vec_capacity}
use Rattle.ix_cluster.specs.Firsts.{first_slot}
use Rattle.ix_closure.specs.Follows.{claims_at}
use Rattle.ix_closure.proofs.follow.push_claims.Given as goal

abbrev pub invariant-loop-alt : goal.invariant-loop-alt
invariant-loop-alt l = record {
  items : l.owed.items ≡ l.initial.owed.items ++ claims_at l.at (map (first_slot l.plan l.rule) (range_with_len 0 l.alt));
  len : vec_len l.owed ≡ vec_len l.initial.owed + l.alt;
  capacity : vec_capacity l.owed ≡ vec_capacity l.initial.owed;
}
