use Rattle.ix_first_laws.proofs.FirstLifts.{first_is_lowered}
use Rattle.ix_first_laws.proofs.laws.first_is_flat_first.Goals as goal

pub returns : goal.returns
returns c = λ g plan d p h. first_is_lowered g plan p d h
