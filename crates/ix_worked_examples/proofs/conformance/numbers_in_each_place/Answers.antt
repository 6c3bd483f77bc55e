use Rattle.std.proofs.Common.{refl}
use Rattle.ix_model.proofs.Folds.{the_folds}
use Rattle.ix_worked_examples.proofs.conformance.numbers_in_each_place.Goals as goal

pub returns-clause-literal : goal.returns-clause-literal
returns-clause-literal c = simp the_folds refl

pub returns-clause-insertion : goal.returns-clause-insertion
returns-clause-insertion c = simp the_folds refl

pub returns-clause-member : goal.returns-clause-member
returns-clause-member c = simp the_folds refl

pub returns-clause-both_bounds : goal.returns-clause-both_bounds
returns-clause-both_bounds c = simp the_folds refl

pub returns-clause-low_alone : goal.returns-clause-low_alone
returns-clause-low_alone c = simp the_folds refl

pub returns-clause-quoted : goal.returns-clause-quoted
returns-clause-quoted c = simp the_folds refl

pub returns-clause-class : goal.returns-clause-class
returns-clause-class c = simp the_folds refl

pub returns-clause-no_class : goal.returns-clause-no_class
returns-clause-no_class c = simp the_folds refl
