use Rattle.std.proofs.Common.{[], ◌∷◌, inl, inr, lit<}
use Rattle.ix_cluster.proofs.Members.{first_has, none_has, one_has}
use Rattle.ix_closure.specs.declared.owed.Owed.TheVariants.{Claim, End}
use Rattle.ix_settled_laws.proofs.Small.{must_claim, must_end, claim_covered, follower_covered, later_covered}
use Rattle.ix_settled_laws.proofs.laws.workers_cover_their_entries.Goals as goal

pub returns-clause-owed : goal.returns-clause-owed
returns-clause-owed c = claim_covered

pub returns-clause-of_others : goal.returns-clause-of_others
returns-clause-of_others c = follower_covered

pub returns-clause-known : goal.returns-clause-known
returns-clause-known c = later_covered

pub returns-clause-forgotten : goal.returns-clause-forgotten
returns-clause-forgotten c = must_claim [] (3 ∷ []) [] (inl (lit< tt)) (λ h. none_has (Claim 0 0 0) h)

pub returns-clause-own_forgotten : goal.returns-clause-own_forgotten
returns-clause-own_forgotten c = must_claim ((0, 1) ∷ []) [] [] (inr (first_has (0, 1) [])) (λ h. none_has (Claim 0 0 0) h)

pub returns-clause-other_owed : goal.returns-clause-other_owed
returns-clause-other_owed c = must_claim [] (3 ∷ []) (End 0 0 0 ∷ []) (inl (lit< tt)) (λ h. absurd (cc (one_has (End 0 0 0) (Claim 0 0 0) h)))

pub returns-clause-end_forgotten : goal.returns-clause-end_forgotten
returns-clause-end_forgotten c = must_end (3 ∷ []) [] (λ h. none_has (End 0 0 0) h)
