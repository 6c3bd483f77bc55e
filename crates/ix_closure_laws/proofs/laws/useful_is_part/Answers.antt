use Rattle.ix_closure_laws.proofs.Reaching.{reached_part, useful_reached}
use Rattle.ix_closure_laws.proofs.laws.useful_is_part.Goals as goal

pub returns : goal.returns
returns c = λ plan sub planned h. reached_part plan planned sub.slot sub.left sub.pivot sub.right (useful_reached plan planned sub h)
