use Rattle.std.proofs.Common.{rules, [], refl, arith}
use Rattle.ix_examples.specs.SmallPlans.{nothing}
use Rattle.ix_cluster.specs.declared.fact.Fact.TheVariants as fact
use Rattle.ix_cluster.proofs.Members.{none_has}
use Rattle.ix_closure.specs.declared.owed.Owed.TheVariants.{Claim, Edge, End}
use Rattle.ix_closure.specs.Due.{FollowsIn, claim, ends}
use Rattle.ix_closure.specs.Examples.{nothing_begun, nothing_called, nothing_ended}
use Rattle.ix_closure.proofs.Small.SmallStates.{balanced_more, nothing_begun_tidy, nothing_ended_tidy}
use Rattle.ix_closure.proofs.Small.SmallSteps.{nothing_last}
use Rattle.ix_closure.proofs.laws.balanced_state_forgets_nothing.Goals as goal

no_edge : FollowsIn (nothing []) nothing_begun.banks (Edge 0 0 0 0) → ⊥
no_edge = search rules

no_end : FollowsIn (nothing []) nothing_begun.banks (End 0 0 0) → ⊥
no_end = search rules

pub returns-clause-begun : goal.returns-clause-begun
returns-clause-begun c = nothing_begun_tidy.balanced

pub returns-clause-ended : goal.returns-clause-ended
returns-clause-ended c = nothing_ended_tidy.balanced

pub returns-clause-forgotten_claim : goal.returns-clause-forgotten_claim
returns-clause-forgotten_claim c = λ h. none_has (Claim 0 0 0) (h.missing (Claim 0 0 0) (claim 0 0 0 (1, omega arith, refl), search rules))

pub returns-clause-forgotten_end : goal.returns-clause-forgotten_end
returns-clause-forgotten_end c = λ h. none_has (End 0 0 0) (h.missing (End 0 0 0) (ends 0 0 0 0 (3, omega arith, refl) nothing_last, search rules))

pub returns-clause-edge_from_nowhere : goal.returns-clause-edge_from_nowhere
returns-clause-edge_from_nowhere c = λ h. no_edge (h.caused (Edge 0 0 0 0) (1, omega arith, refl))

pub returns-clause-end_too_early : goal.returns-clause-end_too_early
returns-clause-end_too_early c = λ h. no_end (h.caused (End 0 0 0) (1, omega arith, refl))

pub returns-clause-no_call : goal.returns-clause-no_call
returns-clause-no_call c = λ h. none_has (fact.Called 0 0) ((h.sound.each 0 (record { log = []; handed = 0 }) refl).opened refl)

pub returns-clause-miscounted : goal.returns-clause-miscounted
returns-clause-miscounted c = λ h. let e = (h.sound.each 0 (record { log = nothing_called; handed = 1 }) refl).handed in omega (arith, e)

pub returns-clause-twice : goal.returns-clause-twice
returns-clause-twice c = balanced_more (nothing []) nothing_begun nothing_begun_tidy.balanced (Claim 0 0 0) (claim 0 0 0 (1, omega arith, refl))

pub returns-clause-end_still : goal.returns-clause-end_still
returns-clause-end_still c = balanced_more (nothing []) nothing_ended nothing_ended_tidy.balanced (End 0 0 0) (ends 0 0 0 0 (3, omega arith, refl) nothing_last)
