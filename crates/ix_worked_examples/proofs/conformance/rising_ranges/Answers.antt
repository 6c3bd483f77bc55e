use Rattle.std.proofs.Common.{refl}
use Rattle.ix_model.proofs.Folds.{the_folds}
use Rattle.ix_worked_examples.proofs.conformance.rising_ranges.Goals as goal

pub returns-clause-numbers : goal.returns-clause-numbers
returns-clause-numbers c = simp the_folds refl

pub returns-clause-mixed : goal.returns-clause-mixed
returns-clause-mixed c = simp the_folds refl

pub returns-clause-no_range : goal.returns-clause-no_range
returns-clause-no_range c = simp the_folds refl
