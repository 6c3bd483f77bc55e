use Rattle.std.proofs.Common.{[], ◌∷◌, refl, inl, inr}
use Rattle.std.specs.List.{IsDistinct}
use Rattle.ix_cluster.proofs.Members.{first_has, rest_has, none_has, one_has}
use Rattle.ix_closure.specs.declared.owed.Owed.TheVariants.{Claim, End}
use Rattle.ix_closure.specs.Quantity.{same_step}
use Rattle.ix_closure.proofs.Adopting.AddedItems.{adds_step, none_distinct}
use Rattle.ix_closure.proofs.laws.list_grows_by_items.Goals as goal

pub returns-clause-added : goal.returns-clause-added
returns-clause-added c = adds_step (Claim 0 0 0 ∷ []) (Claim 0 0 0 ∷ End 0 0 1 ∷ []) (End 0 0 1) refl

pub returns-clause-lost : goal.returns-clause-lost
returns-clause-lost c = λ h. cc (one_has (End 0 0 1) (Claim 0 0 0) (h.kept (Claim 0 0 0) (first_has (Claim 0 0 0) [])))

pub returns-clause-forgotten : goal.returns-clause-forgotten
returns-clause-forgotten c = λ h. cc (one_has (Claim 0 0 0) (End 0 0 1) (h.all (End 0 0 1) refl))

pub returns-clause-another : goal.returns-clause-another
returns-clause-another c = λ h. elim (h.from (End 0 0 2) (rest_has (End 0 0 1) (End 0 0 2 ∷ []) (End 0 0 2) (first_has (End 0 0 2) []))) [ inl n ↦ none_has (End 0 0 2) n | inr e ↦ cc e ]

pub returns-clause-twice : goal.returns-clause-twice
unfolding IsDistinct
returns-clause-twice c = λ h. cc (h.once (none_distinct same_step)).0.0
