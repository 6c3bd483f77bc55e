use Rattle.ix_lex.proofs.Standing.{spans_once}
use Rattle.ix_lex.proofs.laws.spans_are_one.Goals as goal

pub returns : goal.returns
returns c = spans_once
