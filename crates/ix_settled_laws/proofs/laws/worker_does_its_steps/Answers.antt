use Rattle.std.proofs.Common.{[], ◌∷◌, inl, lit<}
use Rattle.ix_cluster.proofs.Members.{none_has}
use Rattle.ix_closure.specs.declared.owed.Owed.TheVariants.{Claim, End}
use Rattle.ix_examples.specs.SmallPlans.{nothing}
use Rattle.ix_closure.specs.Examples.{nothing_called}
use Rattle.ix_closure.proofs.Small.SmallSteps.{nothing_planned}
use Rattle.ix_table.specs.Examples.{seen}
use Rattle.ix_settled_laws.specs.Done.{begins}
use Rattle.ix_settled_laws.proofs.Steps.{work_keeps}
use Rattle.ix_settled_laws.proofs.Small.{works, leaves_end, must_claim, leader_faithful}
use Rattle.ix_settled_laws.proofs.laws.worker_does_its_steps.Goals as goal

pub returns-clause-begins : goal.returns-clause-begins
returns-clause-begins c = begins

pub returns-clause-both : goal.returns-clause-both
returns-clause-both c = works

pub returns-clause-none : goal.returns-clause-none
returns-clause-none c = λ w. must_claim [] (3 ∷ []) [] (inl (lit< tt)) (λ h. none_has (Claim 0 0 0) h) (work_keeps (nothing []) nothing_planned (seen nothing_called []) (Claim 0 0 0 ∷ []) (seen nothing_called []) [] w (3 ∷ []) leader_faithful).covered

pub returns-clause-claim_alone : goal.returns-clause-claim_alone
returns-clause-claim_alone c = λ w. leaves_end [] (λ h. none_has (End 0 0 0) h) w
