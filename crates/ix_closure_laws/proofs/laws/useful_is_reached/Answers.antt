use Rattle.ix_closure_laws.proofs.Reaching.{useful_reached}
use Rattle.ix_closure_laws.proofs.Frames.{useful_of}
use Rattle.ix_closure_laws.proofs.laws.useful_is_reached.Goals as goal

pub returns : goal.returns
returns c = λ plan sub planned. (useful_reached plan planned sub, useful_of plan planned sub.slot sub.left sub.pivot sub.right)
