use Rattle.ix_height.proofs.Places.{not_there}
use Rattle.ix_height.proofs.spans.find.Goals as goal

pub returns-in-Err-clause-none : goal.returns-in-Err-clause-none
returns-in-Err-clause-none c = λ e h. not_there c.args.spans.now c.args.span c.in-Err.field-0 c.requires.sorted c.in-Err.ensures.position h
