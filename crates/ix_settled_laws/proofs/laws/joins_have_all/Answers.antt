use Rattle.ix_settled_laws.proofs.Joining.{joins_know, joins_from, joins_have}
use Rattle.ix_settled_laws.proofs.laws.joins_have_all.Goals as goal

pub returns : goal.returns
returns c = λ first shares last joins. (joins_know first shares last joins, λ m k. (joins_from first shares last joins m k, joins_have first shares last joins m k))
