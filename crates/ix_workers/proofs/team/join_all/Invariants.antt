use Rattle.std.proofs.Common.{◌≡◌, ◌+◌, ◌++◌, map, length, vec_len}
use Rattle.ix_rows.specs.Passes.{IsRoot}
use Rattle.ix_table.specs.Sights.{sight_of}
use Rattle.ix_table.specs.Tables.{PassFits}
use Rattle.ix_settled_laws.specs.Joined.{Joins}
use Rattle.ix_workers.specs.Team.{back_share}
use Rattle.ix_workers.proofs.team.join_all.Given as goal

abbrev pub invariant-loop-one : goal.invariant-loop-one
invariant-loop-one l = record {
  fits : PassFits l.table l.root;
  root : IsRoot l.root;
  begun : l.root.me.0.begun ≡ l.initial.root.me.0.begun;
  out : l.root.me.0.out + length l.yielded ≡ vec_len l.fn.done;
  joins : Joins (sight_of l.initial.root) (map back_share l.yielded) (sight_of l.root);
  all : l.yielded ++ l.one-iterator.rest.items ≡ l.fn.done.items;
}
