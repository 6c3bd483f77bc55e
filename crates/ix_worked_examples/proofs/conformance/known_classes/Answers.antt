use Rattle.std.proofs.Common.{refl}
use Rattle.ucd_category.specs.declared.GeneralCategory.TheVariants.{UppercaseLetter, Unassigned}
use Rattle.ix_worked_examples.proofs.conformance.known_classes.Goals as goal

pub returns-clause-letter : goal.returns-clause-letter
returns-clause-letter c = (UppercaseLetter, refl)

pub returns-clause-upper : goal.returns-clause-upper
returns-clause-upper c = (UppercaseLetter, refl)

pub returns-clause-unassigned : goal.returns-clause-unassigned
returns-clause-unassigned c = (Unassigned, refl)
