use Rattle.std.proofs.Common.{List, [], ◌∷◌, Contains, codes, refl, subst}
use Rattle.ix_model.specs.Closure.Useful.{sub_at}
use Rattle.ix_examples.specs.SmallPlans.{only_a}
use Rattle.ix_examples.proofs.SmallPlans.{planned_b}
use Rattle.ix_cluster.specs.declared.fact.Fact.TheVariants as fact
use Rattle.ix_cluster.proofs.Members.{first_has, none_has, one_has}
use Rattle.ix_closure.specs.declared.owed.Owed.{Owed}
use Rattle.ix_closure.specs.declared.owed.Owed.TheVariants.{Arrive}
use Rattle.ix_closure.proofs.Due.DescriptorSteps.{follows_same}
use Rattle.ix_closure.proofs.Small.SmallSteps.{a_passes, b_stops}
use Rattle.ix_closure.proofs.laws.facts_bring_steps.Goals as goal

pub returns-clause-claim : goal.returns-clause-claim
returns-clause-claim c = (Arrive (sub_at 1 0 0 1) ∷ [], a_passes, first_has (Arrive (sub_at 1 0 0 1)) [])

pub returns-clause-other_text : goal.returns-clause-other_text
returns-clause-other_text c = λ h. none_has (Arrive (sub_at 1 0 0 1)) (subst (λ (z : List Owed). Contains z (Arrive (sub_at 1 0 0 1))) (follows_same (only_a (codes "b")) planned_b 0 0 0 h.0 [] h.1 b_stops) h.2)

pub returns-clause-edge : goal.returns-clause-edge
returns-clause-edge c = (2, first_has (fact.End 0 1 2) [], refl)

pub returns-clause-other_cluster : goal.returns-clause-other_cluster
returns-clause-other_cluster c = λ h. cc (one_has (fact.End 0 0 2) (fact.End 0 1 h.0) h.1)
