use Rattle.ix_answer_laws.proofs.AnswerThere.{answer_is_there}
use Rattle.ix_answer_laws.proofs.laws.answer_is_there.Goals as goal

pub returns : goal.returns
returns c = answer_is_there
