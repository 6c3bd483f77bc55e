use Rattle.ix_tree_laws.proofs.Widths.{derived_width}
use Rattle.ix_tree_laws.proofs.laws.width_is_span.Goals as goal

pub returns : goal.returns
returns c = derived_width
