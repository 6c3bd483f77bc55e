use Rattle.std.proofs.Common.{sym, subst}
use Rattle.ix_model.specs.Expansion.Parts.{Parts}
use Rattle.ix_model.specs.Closure.Closed as closed
use Rattle.ix_examples.proofs.SmallClosures.{part_1c}
use Rattle.ix_table.proofs.tests.arrive_by_first.Goals as goal

pub arrive-requires-clause-closed : goal.arrive-requires-clause-closed
arrive-requires-clause-closed g c = subst (λ (plan : Parts). closed.Part plan 1 0 0 1) (sym c.requires.plan) part_1c
