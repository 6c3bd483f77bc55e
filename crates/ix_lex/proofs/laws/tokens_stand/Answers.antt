use Rattle.ix_lex.proofs.Spelling.{stand_in}
use Rattle.ix_lex.proofs.laws.tokens_stand.Goals as goal

pub returns : goal.returns
returns c = λ cs ts. stand_in cs 0 ts
