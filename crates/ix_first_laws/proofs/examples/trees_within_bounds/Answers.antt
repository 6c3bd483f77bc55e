use Rattle.std.proofs.Common.{◌≡◌, ◌⊎◌, None, arith}
use mathlib.Core.Logic.{inl, inr}
use Rattle.ix_model.specs.Expansion.FlatTrees.{flat_node}
use Rattle.ix_model.specs.Expansion.FlatHeights.{flat_height}
use Rattle.ix_model.specs.Expansion.FlatOrder.{FlatBefore, FlatsBefore}
use Rattle.ix_examples.specs.SmallPlans.{a_by, alone, pair}
use Rattle.ix_first_laws.proofs.CycleTrees.{a_cycle, cycle_best, cycle_span, derived_a, not_before}
use Rattle.ix_first_laws.proofs.HalfTrees.{best_two, empty, full, full_first, halves, no_pair_before}
use Rattle.ix_closure_laws.proofs.FlatWidths.{marked}
use Rattle.ix_first_laws.proofs.examples.trees_within_bounds.Goals as goal

pub returns-clause-tree : goal.returns-clause-tree
returns-clause-tree c = (a_by 1, None, derived_a)

pub returns-clause-no_tree : goal.returns-clause-no_tree
returns-clause-no_tree c = λ h.
    let e : 0 ≡ 1 = cycle_span (flat_height a_cycle.rules h.0) h.0 0 0 (omega arith) (marked a_cycle h.0 0 0 0 h.1 None h.2) in
    omega (arith, e)

pub returns-clause-within : goal.returns-clause-within
returns-clause-within c = (derived_a, omega arith)

pub returns-clause-trees : goal.returns-clause-trees
returns-clause-trees c = full_first

pub returns-clause-later_trees : goal.returns-clause-later_trees
returns-clause-later_trees c = λ h. cases (h.before (pair empty full) best_two.within)
  where
    cases : (pair empty full ≡ pair full empty) ⊎ FlatsBefore halves.rules (pair full empty) (pair empty full) 1 → ⊥
    cases (inl e) = cc e
    cases (inr l) = no_pair_before l

pub returns-clause-best : goal.returns-clause-best
returns-clause-best c = cycle_best

pub returns-clause-not_best : goal.returns-clause-not_best
returns-clause-not_best c = λ h. cases (h.before (a_by 1) (derived_a, omega arith))
  where
    cases : (a_by 1 ≡ flat_node 0 0 (alone (a_by 1))) ⊎ FlatBefore a_cycle.rules (flat_node 0 0 (alone (a_by 1))) (a_by 1) 1 → ⊥
    cases (inl e) = cc e
    cases (inr l) = not_before l

pub returns-clause-best_trees : goal.returns-clause-best_trees
returns-clause-best_trees c = best_two
