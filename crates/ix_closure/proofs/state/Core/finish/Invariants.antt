use Rattle.std.proofs.Common.{◌≡◌, ◌+◌, ◌-◌, ◌*◌, ◌^◌, length}
use Rattle.ix_cluster.specs.declared.limits.TheConstants.{BANK_LIMIT, FACT_LIMIT}
use Rattle.ix_cluster.specs.Banks.{facts_of}
use Rattle.ix_closure.specs.LastRuns.{IsReachedByLast}
use Rattle.ix_closure.proofs.state.Core.finish.Given as goal

abbrev pub invariant-loop-core : goal.invariant-loop-core
invariant-loop-core l = record {
  plan : l.core.plan ≡ l.fn.self.plan;
  reached : IsReachedByLast l.fn.self.plan l.fn.self.state l.core.state;
}

abbrev pub decreases-loop-core : goal.decreases-loop-core
decreases-loop-core l = (BANK_LIMIT * FACT_LIMIT - length (facts_of l.core.state.banks)) * 2 ^ 64 + length l.core.state.owed
