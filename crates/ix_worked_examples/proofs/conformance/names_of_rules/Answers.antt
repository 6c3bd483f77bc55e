use Rattle.std.proofs.Common.{refl, codes, arith}
use Rattle.ix_model.proofs.Folds.{the_folds}
use Rattle.ix_examples.specs.SmallGrammars.{only_a}
use Rattle.ix_conformance_laws.proofs.ByTests.{not_defined}
use Rattle.ix_worked_examples.proofs.conformance.names_of_rules.Goals as goal

pub returns-clause-own : goal.returns-clause-own
returns-clause-own c = (0, (_, refl, refl))

pub returns-clause-later : goal.returns-clause-later
returns-clause-later c = (3, (_, refl, refl))

pub returns-clause-second : goal.returns-clause-second
returns-clause-second c = ((_, refl, refl), 0, omega arith, (_, refl, refl))

pub returns-clause-case : goal.returns-clause-case
returns-clause-case c = not_defined only_a (codes "s") refl

pub returns-clause-longer : goal.returns-clause-longer
returns-clause-longer c = not_defined only_a (codes "Sa") refl

pub returns-clause-item_and_separator : goal.returns-clause-item_and_separator
returns-clause-item_and_separator c = simp the_folds refl

pub returns-clause-item_and_separator_of_star : goal.returns-clause-item_and_separator_of_star
returns-clause-item_and_separator_of_star c = simp the_folds refl

pub returns-clause-option : goal.returns-clause-option
returns-clause-option c = simp the_folds refl

pub returns-clause-literal : goal.returns-clause-literal
returns-clause-literal c = simp the_folds refl
