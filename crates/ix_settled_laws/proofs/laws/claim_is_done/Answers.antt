use Rattle.std.proofs.Common.{[], ◌∷◌}
use Rattle.ix_cluster.proofs.Members.{none_has}
use Rattle.ix_closure.specs.declared.owed.Owed.TheVariants.{Claim, End}
use Rattle.ix_settled_laws.proofs.Small.{claim_done, claim_was_done, done_leaves_end, no_end_in}
use Rattle.ix_settled_laws.proofs.laws.claim_is_done.Goals as goal

pub returns-clause-done : goal.returns-clause-done
returns-clause-done c = claim_done []

pub returns-clause-behind : goal.returns-clause-behind
returns-clause-behind c = claim_done (Claim 0 0 0 ∷ [])

pub returns-clause-taken : goal.returns-clause-taken
returns-clause-taken c = claim_was_done

pub returns-clause-dropped : goal.returns-clause-dropped
returns-clause-dropped c = λ d. done_leaves_end [] (λ h. none_has (End 0 0 0) h) d

pub returns-clause-other : goal.returns-clause-other
returns-clause-other c = λ d. done_leaves_end (Claim 0 0 0 ∷ []) no_end_in d
