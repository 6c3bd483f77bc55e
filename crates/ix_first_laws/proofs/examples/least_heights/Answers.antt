use Rattle.std.proofs.Common.{◌≡◌, ◌≤◌, refl, arith}
use Rattle.ix_model.specs.Expansion.FlatHeights.{flat_height}
use Rattle.ix_examples.specs.SmallPlans.{a_by}
use Rattle.ix_first_laws.proofs.CycleTrees.{a_cycle, cycle_height, cycle_span, derived_a}
use Rattle.ix_first_laws.proofs.examples.least_heights.Goals as goal

pub returns-clause-least : goal.returns-clause-least
returns-clause-least c = record { tree = a_by 1; derived = derived_a; height = refl; least = λ e h. cycle_height e 0 1 h }

pub returns-clause-higher : goal.returns-clause-higher
returns-clause-higher c = λ h. let l : 2 ≤ 1 = h.least (a_by 1) derived_a in omega (arith, l)

pub returns-clause-lower : goal.returns-clause-lower
returns-clause-lower c = λ h. omega (arith, h.height, cycle_height h.tree 0 1 h.derived)

pub returns-clause-no_tree : goal.returns-clause-no_tree
returns-clause-no_tree c = λ n h. let e : 0 ≡ 1 = cycle_span (flat_height a_cycle.rules h.tree) h.tree 0 0 (omega arith) h.derived in omega (arith, e)
