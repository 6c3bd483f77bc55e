use Rattle.std.proofs.Common.{[], ◌∷◌, inl, lit<}
use Rattle.ix_cluster.proofs.Members.{none_has}
use Rattle.ix_closure.specs.declared.owed.Owed.TheVariants.{Claim}
use Rattle.ix_settled_laws.proofs.Small.{must_claim, leader_faithful}
use Rattle.ix_settled_laws.proofs.laws.dropped_steps_break_faith.Goals as goal

pub returns-clause-same : goal.returns-clause-same
returns-clause-same c = λ begun faithful. faithful

pub returns-clause-dropped : goal.returns-clause-dropped
returns-clause-dropped c = λ k. must_claim [] (3 ∷ []) [] (inl (lit< tt)) (λ h. none_has (Claim 0 0 0) h) (k (3 ∷ []) leader_faithful).covered
