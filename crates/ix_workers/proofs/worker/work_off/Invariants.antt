use Rattle.std.proofs.Common.{◌<◌}
use Rattle.ix_table.specs.Sights.{sight_of}
use Rattle.ix_table.specs.Tables.{PassFits}
use Rattle.ix_settled_laws.specs.Done.{Works}
use Rattle.ix_settled_laws.specs.Owing.{OwesClosed}
use Rattle.ix_workers.proofs.worker.work_off.Given as goal

abbrev pub invariant-loop : goal.invariant-loop
invariant-loop g l = record {
  fits : PassFits l.fn.table l.worker.pass;
  works : Works l.fn.plan (sight_of l.initial.worker.pass) l.initial.worker.owed.items (sight_of l.worker.pass) l.worker.owed.items;
  closed : OwesClosed l.fn.plan l.worker.owed.items;
  few : l.misses < 10_000;
}
