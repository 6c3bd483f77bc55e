use Rattle.ix_settled_laws.proofs.Settling.{settles}
use Rattle.ix_settled_laws.proofs.laws.done_is_settled.Goals as goal

pub returns : goal.returns
returns c = λ plan banks workers sound done. settles plan banks sound workers done
