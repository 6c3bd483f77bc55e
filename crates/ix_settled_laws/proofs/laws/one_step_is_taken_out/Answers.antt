use Rattle.std.proofs.Common.{[], ◌∷◌, inl, inr}
use Rattle.ix_cluster.proofs.Members.{first_has, rest_has, none_has}
use Rattle.ix_closure.specs.declared.owed.Owed.TheVariants.{Claim, End}
use Rattle.ix_settled_laws.proofs.laws.one_step_is_taken_out.Goals as goal

pub returns-clause-dropped : goal.returns-clause-dropped
returns-clause-dropped c = λ t. elim (t.0 (End 0 0 0) (rest_has (Claim 0 0 0) (End 0 0 0 ∷ []) (End 0 0 0) (first_has (End 0 0 0) []))) [ inl e ↦ absurd (cc e) | inr h ↦ none_has (End 0 0 0) h ]

pub returns-clause-more : goal.returns-clause-more
returns-clause-more c = λ t. none_has (End 0 0 0) (t.1 (End 0 0 0) (first_has (End 0 0 0) []))
