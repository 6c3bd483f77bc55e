use Rattle.std.proofs.Common.{refl}
use Rattle.ix_model.proofs.Folds.{the_folds}
use Rattle.ix_worked_examples.proofs.depth.in_the_order_of_the_grammar.Goals as goal

pub returns-clause-numbers : goal.returns-clause-numbers
returns-clause-numbers c = simp the_folds refl

pub returns-clause-calls : goal.returns-clause-calls
returns-clause-calls c = simp the_folds refl

pub returns-clause-classes : goal.returns-clause-classes
returns-clause-classes c = simp the_folds refl

pub returns-clause-ranges : goal.returns-clause-ranges
returns-clause-ranges c = simp the_folds refl
