use Rattle.std.proofs.Common.{sym, subst}
use Rattle.ix_model.specs.Expansion.Parts.{Parts}
use Rattle.ix_model.specs.Closure.Closed as closed
use Rattle.ix_examples.proofs.SmallClosures.{edge_0c}
use Rattle.ix_table.proofs.tests.add_edge.Goals as goal

pub add_edge-requires-clause-closed : goal.add_edge-requires-clause-closed
add_edge-requires-clause-closed g c = subst (λ (plan : Parts). closed.Edge plan 0 0 0 0) (sym c.requires.plan) edge_0c
