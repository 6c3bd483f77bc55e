use Rattle.ix_settled_laws.proofs.Settling.{has_what_follows, none_is_missing}
use Rattle.ix_settled_laws.proofs.laws.none_is_missing.Goals as goal

pub returns : goal.returns
returns c = λ plan banks. (has_what_follows plan banks, none_is_missing plan banks)
