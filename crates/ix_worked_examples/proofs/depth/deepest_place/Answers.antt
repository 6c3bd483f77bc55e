use Rattle.std.proofs.Common.{refl}
use Rattle.ix_model.proofs.Folds.{the_folds}
use Rattle.ix_worked_examples.proofs.depth.deepest_place.Goals as goal

pub returns-clause-flat : goal.returns-clause-flat
returns-clause-flat c = simp the_folds refl

pub returns-clause-empty_group : goal.returns-clause-empty_group
returns-clause-empty_group c = simp the_folds refl

pub returns-clause-option : goal.returns-clause-option
returns-clause-option c = simp the_folds refl

pub returns-clause-item_of_star : goal.returns-clause-item_of_star
returns-clause-item_of_star c = simp the_folds refl

pub returns-clause-item_of_plus : goal.returns-clause-item_of_plus
returns-clause-item_of_plus c = simp the_folds refl

pub returns-clause-item_before_separator : goal.returns-clause-item_before_separator
returns-clause-item_before_separator c = simp the_folds refl

pub returns-clause-separator_of_plus : goal.returns-clause-separator_of_plus
returns-clause-separator_of_plus c = simp the_folds refl

pub returns-clause-first_alternative : goal.returns-clause-first_alternative
returns-clause-first_alternative c = simp the_folds refl

pub returns-clause-second_alternative : goal.returns-clause-second_alternative
returns-clause-second_alternative c = simp the_folds refl

pub returns-clause-first_rule : goal.returns-clause-first_rule
returns-clause-first_rule c = simp the_folds refl
