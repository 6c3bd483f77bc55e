use Rattle.std.proofs.Common.{refl}
use Rattle.ix_model.proofs.Folds.{the_folds}
use Rattle.ix_worked_examples.proofs.sizes.sizes_of_parts.Goals as goal

pub returns-clause-empty_alternative : goal.returns-clause-empty_alternative
returns-clause-empty_alternative c = simp the_folds refl

pub returns-clause-one_term : goal.returns-clause-one_term
returns-clause-one_term c = simp the_folds refl

pub returns-clause-two_alternatives : goal.returns-clause-two_alternatives
returns-clause-two_alternatives c = simp the_folds refl

pub returns-clause-option : goal.returns-clause-option
returns-clause-option c = simp the_folds refl

pub returns-clause-star : goal.returns-clause-star
returns-clause-star c = simp the_folds refl

pub returns-clause-star_by : goal.returns-clause-star_by
returns-clause-star_by c = simp the_folds refl

pub returns-clause-plus : goal.returns-clause-plus
returns-clause-plus c = simp the_folds refl

pub returns-clause-plus_by : goal.returns-clause-plus_by
returns-clause-plus_by c = simp the_folds refl

pub returns-clause-group : goal.returns-clause-group
returns-clause-group c = simp the_folds refl

pub returns-clause-group_in_star : goal.returns-clause-group_in_star
returns-clause-group_in_star c = simp the_folds refl

pub returns-clause-group_as_separator : goal.returns-clause-group_as_separator
returns-clause-group_as_separator c = simp the_folds refl

pub returns-clause-group_in_option : goal.returns-clause-group_in_option
returns-clause-group_in_option c = simp the_folds refl

pub returns-clause-group_in_plus : goal.returns-clause-group_in_plus
returns-clause-group_in_plus c = simp the_folds refl
