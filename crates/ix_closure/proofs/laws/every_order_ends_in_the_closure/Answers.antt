use Rattle.std.proofs.Common.{rules, [], ◌∷◌, Contains, refl, arith}
use Rattle.ix_cluster.specs.declared.fact.Fact.TheVariants as fact
use Rattle.ix_closure.specs.declared.owed.Owed.TheVariants.{Claim}
use Rattle.ix_closure.specs.Examples.{alone, nothing_called}
use Rattle.ix_closure.specs.Runs.{rests}
use Rattle.ix_closure.proofs.Small.SmallStates.{cycle_every_order, nothing_closure, nothing_every_order}
use Rattle.ix_closure.proofs.laws.every_order_ends_in_the_closure.Goals as goal

unclaimed : Contains nothing_called (fact.Claim 0 0 0) → ⊥
unclaimed = search rules

pub returns-clause-begun : goal.returns-clause-begun
returns-clause-begun c = nothing_every_order

pub returns-clause-cycle : goal.returns-clause-cycle
returns-clause-cycle c = cycle_every_order

pub returns-clause-forgotten : goal.returns-clause-forgotten
returns-clause-forgotten c = λ h. unclaimed ((h.ends [] (alone nothing_called 0 []) rests refl).all (fact.Claim 0 0 0) (nothing_closure.closed (fact.Claim 0 0 0) (3, omega arith, refl)))

pub returns-clause-twice : goal.returns-clause-twice
returns-clause-twice c = λ h. let once = (h.tidy [] (alone nothing_called 0 (Claim 0 0 0 ∷ Claim 0 0 0 ∷ [])) rests).claims 0 0 0 (0, omega arith, refl) in omega (arith, once.0)
