use Rattle.ix_lex.proofs.Standing.{stand_for}
use Rattle.ix_lex.proofs.laws.spans_stand_for_tokens.Goals as goal

pub returns : goal.returns
returns c = stand_for
