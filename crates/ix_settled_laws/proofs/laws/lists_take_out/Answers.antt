use Rattle.ix_settled_laws.proofs.Steps.{taken_at, taken_last, taken_none}
use Rattle.ix_settled_laws.proofs.laws.lists_take_out.Goals as goal

pub returns : goal.returns
returns c = λ owed step. (λ n e. taken_at owed step n e, λ rest e. taken_last owed step rest e, taken_none owed step)
