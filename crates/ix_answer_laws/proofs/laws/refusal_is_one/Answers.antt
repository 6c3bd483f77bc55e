use Rattle.ix_answer_laws.proofs.Refusals.{refusal_is_one}
use Rattle.ix_answer_laws.proofs.laws.refusal_is_one.Goals as goal

pub returns : goal.returns
returns c = refusal_is_one
