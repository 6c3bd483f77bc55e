use Rattle.ix_tree_laws.proofs.Roots.{from_call, from_first_rule}
use Rattle.ix_tree_laws.proofs.laws.root_is_call.Goals as goal

pub returns : goal.returns
returns c = λ g s name d unique named. (from_call g s name d named, from_first_rule g s name d unique named)
