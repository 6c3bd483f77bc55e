use Rattle.std.proofs.Common.{refl}
use mathlib.Core.Logic.{inl, inr}
use Rattle.ix_model.specs.Closure.Useful.{sub_at}
use Rattle.ix_examples.specs.SmallPlans.{a_by}
use Rattle.ix_examples.proofs.SmallClosures.{last_1, part_1}
use Rattle.ix_worked_examples.proofs.SmallUses.{derived_a, not_derived_b, none_useful_b}
use Rattle.ix_worked_examples.proofs.useful.root_of_one_literal.Goals as goal

pub returns-clause-tree : goal.returns-clause-tree
returns-clause-tree c = (a_by 0, derived_a)

pub returns-clause-no_tree : goal.returns-clause-no_tree
returns-clause-no_tree c = not_derived_b

pub returns-clause-root : goal.returns-clause-root
returns-clause-root c = (1, 0, last_1, part_1)

pub returns-clause-useful : goal.returns-clause-useful
returns-clause-useful c = (sub_at 1 0 0 1, (a_by 0, derived_a, inr (inl (1, refl, refl))))

pub returns-clause-none_useful : goal.returns-clause-none_useful
returns-clause-none_useful c = none_useful_b
