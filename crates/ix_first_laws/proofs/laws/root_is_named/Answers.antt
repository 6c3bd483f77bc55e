use Rattle.ix_first_laws.proofs.FirstLifts.{root_named}
use Rattle.ix_first_laws.proofs.laws.root_is_named.Goals as goal

pub returns : goal.returns
returns c = root_named
