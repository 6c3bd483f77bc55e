use Rattle.std.proofs.Common.{refl}
use Rattle.ix_model.proofs.Folds.{the_folds}
use Rattle.ix_worked_examples.proofs.sizes.worked_sizes.Goals as goal

pub returns-clause-two_rules : goal.returns-clause-two_rules
returns-clause-two_rules c = simp the_folds refl

pub returns-clause-all_forms : goal.returns-clause-all_forms
returns-clause-all_forms c = simp the_folds refl
