use Rattle.std.proofs.Common.{subst, rules}
use Rattle.ix_cluster.specs.Banks.{facts_of}
use Rattle.ix_closure.specs.Closure.{IsClosure}
use Rattle.ix_closure.specs.Seen.{Core}
use Rattle.ix_closure.proofs.Closing.QuietClosure.{quiet_closure}
use Rattle.ix_closure.proofs.state.Core.owed.Goals as goal

pub returns-clause-closure : goal.returns-clause-closure
returns-clause-closure c = λ e.
    let closure = quiet_closure c.self.inside.plan.now (record { banks = c.self.inside.banks.banks.items; owed = c.self.inside.owed.items }) c.self.invariant (search rules) in
    subst (λ (core : Core). IsClosure core.plan (facts_of core.state.banks)) c.self.view_is closure
