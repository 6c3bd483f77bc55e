use Rattle.std.proofs.Common.{refl}
use Rattle.unicode.specs.GeneralCategory.{general_category}
use Rattle.unicode.specs.Rows.{value_in}
use Rattle.ucd_category.specs.GeneralCategoryRows.{general_category_rows}
use Rattle.ix_worked_examples.proofs.terminals.classes_by_category.Goals as goal

pub returns-clause-upper : goal.returns-clause-upper
unfolding general_category value_in general_category_rows
returns-clause-upper c = refl

pub returns-clause-letter : goal.returns-clause-letter
unfolding general_category value_in general_category_rows
returns-clause-letter c = refl

pub returns-clause-lower : goal.returns-clause-lower
unfolding general_category value_in general_category_rows
returns-clause-lower c = refl

pub returns-clause-no_digit : goal.returns-clause-no_digit
unfolding general_category value_in general_category_rows
returns-clause-no_digit c = refl

pub returns-clause-digit : goal.returns-clause-digit
unfolding general_category value_in general_category_rows
returns-clause-digit c = refl
