use Rattle.ix_answer_laws.proofs.Refusals.{refusal_or_none}
use Rattle.ix_answer_laws.proofs.laws.refusal_or_none.Goals as goal

pub returns : goal.returns
returns c = refusal_or_none
