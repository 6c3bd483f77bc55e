use Rattle.ix_expand.proofs.Alone.{insertion_made}
use Rattle.ix_expand.proofs.leaves.inserted.Goals as goal

pub returns-clause-made : goal.returns-clause-made
returns-clause-made c = λ g. insertion_made g _ _ _ _ _ c.in_ok-insert.ensures.added c.in_ok-text.ensures c.in_ok-insert.ensures.number
