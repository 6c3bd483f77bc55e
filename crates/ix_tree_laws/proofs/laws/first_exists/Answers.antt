use Rattle.ix_tree_laws.proofs.Choice.{first_exists}
use Rattle.ix_tree_laws.proofs.laws.first_exists.Goals as goal

pub returns : goal.returns
returns c = first_exists
