use Rattle.std.proofs.Common.{refl}
use Rattle.unicode.specs.GeneralCategory.{general_category}
use Rattle.unicode.specs.Rows.{value_in}
use Rattle.ucd_category.specs.GeneralCategoryRows.{general_category_rows}
use Rattle.ix_worked_examples.proofs.classes.classes_of_one_letter.Goals as goal

pub returns-clause-letters : goal.returns-clause-letters
unfolding general_category value_in general_category_rows
returns-clause-letters c = refl

pub returns-clause-marks : goal.returns-clause-marks
unfolding general_category value_in general_category_rows
returns-clause-marks c = refl

pub returns-clause-numbers : goal.returns-clause-numbers
unfolding general_category value_in general_category_rows
returns-clause-numbers c = refl

pub returns-clause-punctuation : goal.returns-clause-punctuation
unfolding general_category value_in general_category_rows
returns-clause-punctuation c = refl

pub returns-clause-symbols : goal.returns-clause-symbols
unfolding general_category value_in general_category_rows
returns-clause-symbols c = refl

pub returns-clause-separators : goal.returns-clause-separators
unfolding general_category value_in general_category_rows
returns-clause-separators c = refl

pub returns-clause-others : goal.returns-clause-others
unfolding general_category value_in general_category_rows
returns-clause-others c = refl
