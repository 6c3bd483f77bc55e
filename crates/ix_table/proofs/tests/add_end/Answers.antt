use Rattle.std.proofs.Common.{sym, subst}
use Rattle.ix_model.specs.Expansion.Parts.{Parts}
use Rattle.ix_model.specs.Closure.Closed as closed
use Rattle.ix_examples.proofs.SmallClosures.{end_0c}
use Rattle.ix_table.proofs.tests.add_end.Goals as goal

pub add_end-requires-clause-closed : goal.add_end-requires-clause-closed
add_end-requires-clause-closed g c = subst (λ (plan : Parts). closed.End plan 0 0 1) (sym c.requires.plan) end_0c
