use Rattle.std.proofs.Common.{[], ◌∷◌}
use Rattle.std.proofs.lemmas.List.Elements.{All-contains}
use Rattle.ix_examples.specs.SmallPlans.{cycle}
use Rattle.ix_cluster.specs.declared.cluster.Edge.{Edge as Arc}
use Rattle.ix_cluster.proofs.Members.{first_has}
use Rattle.ix_closure.specs.Ready.{HasFurther}
use Rattle.ix_closure.proofs.laws.steps_are_in_range.Goals as goal

pub returns-clause-no_next : goal.returns-clause-no_next
returns-clause-no_next c = λ h. let further = All-contains (λ (edge : Arc). HasFurther (cycle []) edge.slot) (record { slot = 1; left = 0 } ∷ []) (record { slot = 1; left = 0 }) h (first_has (record { slot = 1; left = 0 }) []) in cc further.1
