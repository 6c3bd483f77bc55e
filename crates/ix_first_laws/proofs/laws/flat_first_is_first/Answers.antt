use Rattle.ix_first_laws.proofs.FirstLifts.{first_lifts}
use Rattle.ix_first_laws.proofs.laws.flat_first_is_first.Goals as goal

pub returns : goal.returns
returns c = λ g plan e p h. first_lifts g plan p e h
