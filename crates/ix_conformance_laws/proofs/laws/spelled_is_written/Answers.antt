use Rattle.ix_conformance_laws.proofs.SpelledNumbers.{spelled_hex}
use Rattle.ix_conformance_laws.proofs.laws.spelled_is_written.Goals as goal

pub returns : goal.returns
returns c = spelled_hex
