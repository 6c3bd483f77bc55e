use Rattle.std.proofs.Common.{◌≡◌, ◌≤◌, ◌+◌, ◌*◌, map}
use Rattle.std.specs.List.{range_with_len}
use Rattle.ix_cluster.specs.Firsts.{first_slot}
use Rattle.ix_cluster.specs.Steps.{after_firsts}
use Rattle.ix_cluster.proofs.bank.begin_alternatives.Given as goal

abbrev pub invariant-loop-alt : goal.invariant-loop-alt
invariant-loop-alt l = record {
  facts : l.log.facts ≡ after_firsts l.plan l.at (map (first_slot l.plan l.rule) (range_with_len 0 l.alt)) l.initial.log.facts;
  free : l.initial.log.free ≤ l.log.free + 4 * l.alt;
}
