use Rattle.ix_settled_laws.proofs.Beginning.{first_faithful, other_faithful}
use Rattle.ix_settled_laws.proofs.laws.beginning_is_faithful.Goals as goal

pub returns : goal.returns
returns c = λ plan banks sound. (λ owed missing closed. first_faithful plan banks sound owed missing closed, other_faithful plan banks sound)
