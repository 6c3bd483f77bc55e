use Rattle.ix_closure.proofs.Closing.OneClosure.{closure_once}
use Rattle.ix_closure.proofs.laws.closure_is_one.Goals as goal

pub returns : goal.returns
returns c = closure_once
