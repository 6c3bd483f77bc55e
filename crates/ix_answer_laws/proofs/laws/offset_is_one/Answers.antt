use Rattle.ix_answer_laws.proofs.Offsets.{offset_is_one}
use Rattle.ix_answer_laws.proofs.laws.offset_is_one.Goals as goal

pub returns : goal.returns
returns c = offset_is_one
