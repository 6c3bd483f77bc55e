use Rattle.ix_subtrees.proofs.WrittenUses.{derived_useful, useful_derived}
use Rattle.ix_subtrees.proofs.laws.derived_is_useful.Goals as goal

pub returns : goal.returns
returns c = λ g plan p planned. (λ h. derived_useful g plan p planned h.0 h.1, λ h. useful_derived g plan p planned h)
