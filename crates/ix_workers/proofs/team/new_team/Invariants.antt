use Rattle.std.proofs.Common.{◌≡◌, ◌+◌, length, vec_len}
use Rattle.ix_rows.specs.Passes.{IsRoot}
use Rattle.ix_table.specs.Sights.{sight_of}
use Rattle.ix_table.specs.Tables.{PassFits}
use Rattle.ix_workers.specs.Team.{EachAt, IsNew}
use Rattle.ix_workers.proofs.team.new_team.Given as goal

abbrev pub invariant-loop-hand : goal.invariant-loop-hand
invariant-loop-hand l = record {
  fits : PassFits l.table l.root;
  root : IsRoot l.root;
  begun : l.root.me.0.begun ≡ l.initial.root.me.0.begun;
  sight : sight_of l.root ≡ sight_of l.initial.root;
  out : l.root.me.0.out ≡ vec_len l.team;
  count : vec_len l.team + length l.hand-iterator.rest.items ≡ l.fn.count;
  each : EachAt (IsNew l.plan l.table l.initial.root.me.0.known) l.team.items;
}
