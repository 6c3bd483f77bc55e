use Rattle.ix_expand.proofs.Alone.{set_made}
use Rattle.ix_expand.proofs.leaves.set.Goals as goal

pub returns-clause-made : goal.returns-clause-made
returns-clause-made c = λ g. set_made g _ _ _ _ _ _ _ c.in_ok-terminal.ensures.added c.requires.set c.in_ok-set.ensures.members c.in_ok-terminal.ensures.number c.is_shown.ensures
