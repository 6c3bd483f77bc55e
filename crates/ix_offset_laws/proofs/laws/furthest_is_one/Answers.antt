use Rattle.ix_offset_laws.proofs.FurthestOffset.{furthest_is_one}
use Rattle.ix_offset_laws.proofs.laws.furthest_is_one.Goals as goal

pub returns : goal.returns
returns c = furthest_is_one
