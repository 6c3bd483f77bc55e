use Rattle.ix_closure_laws.proofs.FlatWidths.{width_is}
use Rattle.ix_closure_laws.proofs.laws.flat_width_is_span.Goals as goal

pub returns : goal.returns
returns c = width_is
