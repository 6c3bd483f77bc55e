use Rattle.ix_lex.proofs.Spelling.{spelled, spelled_lexes}
use Rattle.ix_lex.proofs.laws.read_as_spelled.Goals as goal

pub returns : goal.returns
returns c = λ cs ts. (spelled ts cs, spelled_lexes ts cs)
