use Rattle.ix_spelling_laws.proofs.ReadingComplete.{spelled_once}
use Rattle.ix_spelling_laws.proofs.laws.spelling_is_one.Goals as goal

pub returns : goal.returns
returns c = spelled_once
