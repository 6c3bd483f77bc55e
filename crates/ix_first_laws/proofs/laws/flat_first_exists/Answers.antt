use Rattle.ix_first_laws.proofs.FlatFirsts.{first_from}
use Rattle.ix_first_laws.proofs.laws.flat_first_exists.Goals as goal

pub returns : goal.returns
returns c = λ plan d nested named h. first_from plan nested named d h
