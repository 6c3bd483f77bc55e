use Rattle.ix_offset_laws.proofs.FurthestOffset.{offset_of, furthest_of}
use Rattle.ix_offset_laws.proofs.laws.furthest_is_offset.Goals as goal

pub returns : goal.returns
returns c = λ g plan o k planned. (offset_of g plan k planned o, furthest_of g plan k planned o)
