use Rattle.ix_lex.proofs.Standing.{stand_for_all}
use Rattle.ix_lex.proofs.laws.spans_stand_for_all_tokens.Goals as goal

pub returns : goal.returns
returns c = stand_for_all
