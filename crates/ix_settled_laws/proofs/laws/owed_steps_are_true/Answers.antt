use Rattle.std.proofs.Common.{[], ◌∷◌}
use Rattle.ix_cluster.proofs.Members.{first_has, rest_has}
use Rattle.ix_closure.specs.declared.owed.Owed.TheVariants.{Claim}
use Rattle.ix_settled_laws.proofs.Small.{claim_owed, beyond}
use Rattle.ix_settled_laws.proofs.laws.owed_steps_are_true.Goals as goal

pub returns-clause-claim : goal.returns-clause-claim
returns-clause-claim c = claim_owed

pub returns-clause-beyond : goal.returns-clause-beyond
returns-clause-beyond c = beyond (Claim 0 0 0 ∷ Claim 0 0 1 ∷ []) (rest_has (Claim 0 0 0) (Claim 0 0 1 ∷ []) (Claim 0 0 1) (first_has (Claim 0 0 1) []))
