use Rattle.ix_first_laws.proofs.FlatFirsts.{first_is_one}
use Rattle.ix_first_laws.proofs.laws.flat_first_is_one.Goals as goal

pub returns : goal.returns
returns c = first_is_one
