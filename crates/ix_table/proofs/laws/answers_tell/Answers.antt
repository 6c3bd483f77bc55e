use Rattle.std.proofs.Common.{[], refl, subst, codes, arith}
use Rattle.ix_cluster.specs.declared.fact.Fact.TheVariants.{Edge, End, Part, Claim}
use Rattle.ix_model.specs.Closure.Closed as closed
use Rattle.ix_examples.specs.SmallPlans.{cycle}
use Rattle.ix_examples.proofs.SmallClosures.{edge_c, end_c, edge_0c, end_0c}
use Rattle.ix_cluster.specs.declared.cluster.Edge.{Edge as Arc}
use Rattle.ix_cluster.specs.Steps.{empty_sub}
use Rattle.ix_cluster.proofs.Members.{Contains-has, has-Contains, first_has, one_has}
use Rattle.ix_table.specs.Examples.{first_log, claimed_log}
use Rattle.ix_table.proofs.SmallSteps.{claimed_desc}
use Rattle.ix_table.proofs.laws.answers_tell.Goals as goal

pub returns-clause-end : goal.returns-clause-end
returns-clause-end c = (first_has (End 0 0 1) [], λ arc h. subst (λ (a : Arc). closed.Edge (cycle (codes "a")) 0 0 a.slot a.left) (one_has (record { slot = 0; left = 0 }) arc h) edge_0c)

pub returns-clause-edge : goal.returns-clause-edge
returns-clause-edge c = (first_has (Edge 0 0 0 0) [], λ e h. subst (closed.End (cycle (codes "a")) 0 0) (one_has 1 e h) end_0c)

pub returns-clause-subtree : goal.returns-clause-subtree
returns-clause-subtree c = first_has (Part (empty_sub 0 0)) []

pub returns-clause-claim : goal.returns-clause-claim
returns-clause-claim c = (claimed_desc, Contains-has claimed_log (Claim 2 0 0) refl, refl)

pub returns-clause-no_end : goal.returns-clause-no_end
returns-clause-no_end c = λ t. let e = has-Contains first_log (End 0 0 1) t.0 in absurd (cc e)

pub returns-clause-no_edge : goal.returns-clause-no_edge
returns-clause-no_edge c = λ t. let e = has-Contains first_log (Edge 0 0 0 0) t.0 in absurd (cc e)

pub returns-clause-no_subtree : goal.returns-clause-no_subtree
returns-clause-no_subtree c = λ t. let e = has-Contains first_log (Part (empty_sub 0 0)) t in absurd (cc e)

pub returns-clause-no_claim : goal.returns-clause-no_claim
returns-clause-no_claim c = λ t. let e = has-Contains first_log (Claim 2 0 0) t.1 in absurd (cc e)

pub returns-clause-false_edge : goal.returns-clause-false_edge
returns-clause-false_edge c = λ t. let e = (edge_c 0 0 2 0 (t.1 (record { slot = 2; left = 0 }) (first_has _ []))).2 in absurd (omega (arith, e))

pub returns-clause-false_end : goal.returns-clause-false_end
returns-clause-false_end c = λ t. let e = (end_c 0 0 2 (t.1 2 (first_has 2 []))).2 in absurd (omega (arith, e))
