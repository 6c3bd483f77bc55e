use Rattle.ix_answer_laws.proofs.OneAnswer.{answered_once}
use Rattle.ix_answer_laws.proofs.laws.answer_is_one.Goals as goal

pub returns : goal.returns
returns c = answered_once
