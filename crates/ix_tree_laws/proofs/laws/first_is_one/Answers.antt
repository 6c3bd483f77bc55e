use Rattle.ix_tree_laws.proofs.Once.{first_is_one}
use Rattle.ix_tree_laws.proofs.laws.first_is_one.Goals as goal

pub returns : goal.returns
returns c = first_is_one
