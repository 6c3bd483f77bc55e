use mathlib.Core.Logic.{inl}
use Rattle.ix_examples.specs.SmallPlans.{a_by}
use Rattle.ix_worked_examples.proofs.SmallUses.{of_alternatives, no_pivots, of_pivots, of_cycle, one_way, by_first, by_second, one_tree, one_whole}
use Rattle.ix_worked_examples.proofs.useful.two_ways.Goals as goal

pub returns-clause-alternatives : goal.returns-clause-alternatives
returns-clause-alternatives c = of_alternatives

pub returns-clause-no_pivots : goal.returns-clause-no_pivots
returns-clause-no_pivots c = no_pivots

pub returns-clause-pivots : goal.returns-clause-pivots
returns-clause-pivots c = of_pivots

pub returns-clause-cycle : goal.returns-clause-cycle
returns-clause-cycle c = of_cycle

pub returns-clause-one_alternative : goal.returns-clause-one_alternative
returns-clause-one_alternative c = λ h. one_way (inl h)

pub returns-clause-one_way : goal.returns-clause-one_way
returns-clause-one_way c = one_way

pub returns-clause-trees : goal.returns-clause-trees
returns-clause-trees c = (a_by 0, a_by 1, by_first, by_second, λ e. cc e)

pub returns-clause-one_tree : goal.returns-clause-one_tree
returns-clause-one_tree c = one_tree

pub returns-clause-one_whole : goal.returns-clause-one_whole
returns-clause-one_whole c = one_whole
