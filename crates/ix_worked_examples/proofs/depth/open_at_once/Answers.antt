use Rattle.std.proofs.Common.{refl}
use Rattle.ix_model.proofs.Folds.{the_folds}
use Rattle.ix_worked_examples.proofs.depth.open_at_once.Goals as goal

pub returns-clause-around : goal.returns-clause-around
returns-clause-around c = simp the_folds refl

pub returns-clause-in_string : goal.returns-clause-in_string
returns-clause-in_string c = simp the_folds refl

pub returns-clause-beside : goal.returns-clause-beside
returns-clause-beside c = simp the_folds refl

pub returns-clause-separator : goal.returns-clause-separator
returns-clause-separator c = simp the_folds refl

pub returns-clause-second_rule : goal.returns-clause-second_rule
returns-clause-second_rule c = simp the_folds refl

pub returns-clause-all_forms : goal.returns-clause-all_forms
returns-clause-all_forms c = simp the_folds refl
