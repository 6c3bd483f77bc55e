use Rattle.std.proofs.Common.{[], ◌∷◌, inl, inr, lit<, arith}
use Rattle.ix_cluster.proofs.Members.{first_has, none_has}
use Rattle.ix_closure.specs.declared.owed.Owed.TheVariants.{Claim}
use Rattle.ix_settled_laws.proofs.Small.{must_claim, leader_faithful, follower_faithful, beyond, away}
use Rattle.ix_settled_laws.proofs.laws.faithful_workers_owe_what_follows.Goals as goal

pub returns-clause-first : goal.returns-clause-first
returns-clause-first c = leader_faithful

pub returns-clause-other : goal.returns-clause-other
returns-clause-other c = follower_faithful

pub returns-clause-forgotten : goal.returns-clause-forgotten
returns-clause-forgotten c = λ f. must_claim [] (3 ∷ []) [] (inl (lit< tt)) (λ h. none_has (Claim 0 0 0) h) f.covered

pub returns-clause-not_inside : goal.returns-clause-not_inside
returns-clause-not_inside c = λ f. let low = f.inside 0 3 (inr (first_has (0, 3) [])) in absurd (omega (arith, low))

pub returns-clause-not_closed : goal.returns-clause-not_closed
returns-clause-not_closed c = λ f. beyond (Claim 0 0 1 ∷ []) (first_has (Claim 0 0 1) []) f.closed

pub returns-clause-not_at_home : goal.returns-clause-not_at_home
returns-clause-not_at_home c = λ f. away f.at_home
