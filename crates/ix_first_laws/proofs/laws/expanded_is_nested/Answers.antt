use Rattle.ix_first_laws.proofs.Nesting.{expanded_nested}
use Rattle.ix_first_laws.proofs.laws.expanded_is_nested.Goals as goal

pub returns : goal.returns
returns c = expanded_nested
