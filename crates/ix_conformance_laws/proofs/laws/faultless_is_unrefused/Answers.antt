use Rattle.ix_conformance_laws.proofs.Judging.{faultless, unrefused}
use Rattle.ix_conformance_laws.proofs.laws.faultless_is_unrefused.Goals as goal

pub returns : goal.returns
returns c = λ g. (faultless g, unrefused g)
