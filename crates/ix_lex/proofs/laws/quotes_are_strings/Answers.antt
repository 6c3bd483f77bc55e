use Rattle.ix_lex.proofs.Standing.{quotes_whole}
use Rattle.ix_lex.proofs.laws.quotes_are_strings.Goals as goal

pub returns : goal.returns
returns c = quotes_whole
