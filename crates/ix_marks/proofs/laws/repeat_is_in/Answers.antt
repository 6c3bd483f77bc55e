use Rattle.ix_marks.proofs.RepeatInRange.{repeat_is_in}
use Rattle.ix_marks.proofs.laws.repeat_is_in.Goals as goal

pub returns : goal.returns
returns c = repeat_is_in
