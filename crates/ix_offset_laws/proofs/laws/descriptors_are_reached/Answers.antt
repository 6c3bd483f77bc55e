use Rattle.ix_offset_laws.proofs.FurthestOffset.{dot_reached}
use Rattle.ix_offset_laws.proofs.laws.descriptors_are_reached.Goals as goal

pub returns : goal.returns
returns c = λ g plan p k h. dot_reached g plan k p h
