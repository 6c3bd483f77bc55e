use Rattle.ix_expansion_laws.proofs.Walking.{flat_walks}
use Rattle.ix_expansion_laws.proofs.laws.walk_is_of_bare_tree.Goals as goal

pub returns : goal.returns
returns c = flat_walks
