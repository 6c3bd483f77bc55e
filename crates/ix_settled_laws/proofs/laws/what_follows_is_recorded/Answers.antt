use Rattle.std.proofs.Common.{[], ◌∷◌, None, arith, refl}
use Rattle.ix_model.specs.Closure.Useful.{sub_at}
use Rattle.ix_examples.specs.SmallPlans.{nothing}
use Rattle.ix_cluster.specs.declared.fact.Fact.TheVariants as fact
use Rattle.ix_cluster.specs.Banks.{facts_of}
use Rattle.ix_cluster.proofs.Members.{first_has, none_has}
use Rattle.ix_closure.specs.declared.owed.Owed.TheVariants.{End}
use Rattle.ix_closure.specs.Examples.{alone, nothing_begun, nothing_claimed, nothing_ended}
use Rattle.ix_closure.proofs.Due.StepLogs.{has_none}
use Rattle.ix_closure.proofs.Small.SmallStates.{nothing_ended_tidy}
use Rattle.ix_closure.proofs.Small.SmallSteps.{nothing_ends}
use Rattle.ix_settled_laws.proofs.Settling.{has_what_follows}
use Rattle.ix_settled_laws.proofs.Small.{next_c}
use Rattle.ix_settled_laws.proofs.laws.what_follows_is_recorded.Goals as goal

pub returns-clause-all : goal.returns-clause-all
returns-clause-all c = has_what_follows (nothing []) nothing_ended.banks (λ x m. none_has x (nothing_ended_tidy.balanced.missing x m))

pub returns-clause-no_claim : goal.returns-clause-no_claim
returns-clause-no_claim c = λ h. has_none (facts_of nothing_begun.banks) (fact.Claim 0 0 0) refl (h.claims 0 0 0 (1, omega arith, refl))

pub returns-clause-no_end : goal.returns-clause-no_end
returns-clause-no_end c = λ h. has_none (facts_of nothing_claimed.banks) (fact.End 0 0 0) refl (h.brings 0 0 0 (End 0 0 0 ∷ []) (End 0 0 0) (3, omega arith, refl) nothing_ends (first_has (End 0 0 0) []))

pub returns-clause-no_subtree : goal.returns-clause-no_subtree
returns-clause-no_subtree c = λ h. has_none (facts_of (alone (fact.Edge 0 0 0 0 ∷ fact.End 0 0 1 ∷ []) 1 []).banks) (fact.Part (sub_at 1 0 0 1)) refl (h.meets 0 0 0 0 1 1 None (0, omega arith, refl) (1, omega arith, refl) next_c)
