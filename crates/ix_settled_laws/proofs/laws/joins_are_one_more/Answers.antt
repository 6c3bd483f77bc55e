use Rattle.ix_settled_laws.proofs.Joining.{one_pass_more}
use Rattle.ix_settled_laws.proofs.laws.joins_are_one_more.Goals as goal

pub returns : goal.returns
returns c = one_pass_more
