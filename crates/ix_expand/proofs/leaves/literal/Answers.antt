use Rattle.ix_expand.proofs.Alone.{literal_made}
use Rattle.ix_expand.proofs.leaves.literal.Goals as goal

pub returns-clause-made : goal.returns-clause-made
returns-clause-made c = λ g. literal_made g _ _ _ _ _ _ _ c.in_ok-terminal.ensures.added c.in_ok-text.ensures c.in_ok-terminal.ensures.number c.is_shown.ensures
