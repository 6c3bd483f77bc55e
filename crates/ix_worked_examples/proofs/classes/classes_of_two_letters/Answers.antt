use Rattle.std.proofs.Common.{refl}
use Rattle.unicode.specs.GeneralCategory.{general_category}
use Rattle.unicode.specs.Rows.{value_in}
use Rattle.ucd_category.specs.GeneralCategoryRows.{general_category_rows}
use Rattle.ix_worked_examples.proofs.classes.classes_of_two_letters.Goals as goal

pub returns-clause-uppercase_letter : goal.returns-clause-uppercase_letter
unfolding general_category value_in general_category_rows
returns-clause-uppercase_letter c = refl

pub returns-clause-lowercase_letter : goal.returns-clause-lowercase_letter
unfolding general_category value_in general_category_rows
returns-clause-lowercase_letter c = refl

pub returns-clause-titlecase_letter : goal.returns-clause-titlecase_letter
unfolding general_category value_in general_category_rows
returns-clause-titlecase_letter c = refl

pub returns-clause-modifier_letter : goal.returns-clause-modifier_letter
unfolding general_category value_in general_category_rows
returns-clause-modifier_letter c = refl

pub returns-clause-other_letter : goal.returns-clause-other_letter
unfolding general_category value_in general_category_rows
returns-clause-other_letter c = refl

pub returns-clause-nonspacing_mark : goal.returns-clause-nonspacing_mark
unfolding general_category value_in general_category_rows
returns-clause-nonspacing_mark c = refl

pub returns-clause-spacing_mark : goal.returns-clause-spacing_mark
unfolding general_category value_in general_category_rows
returns-clause-spacing_mark c = refl

pub returns-clause-enclosing_mark : goal.returns-clause-enclosing_mark
unfolding general_category value_in general_category_rows
returns-clause-enclosing_mark c = refl

pub returns-clause-decimal_number : goal.returns-clause-decimal_number
unfolding general_category value_in general_category_rows
returns-clause-decimal_number c = refl

pub returns-clause-letter_number : goal.returns-clause-letter_number
unfolding general_category value_in general_category_rows
returns-clause-letter_number c = refl

pub returns-clause-other_number : goal.returns-clause-other_number
unfolding general_category value_in general_category_rows
returns-clause-other_number c = refl

pub returns-clause-connector_punctuation : goal.returns-clause-connector_punctuation
unfolding general_category value_in general_category_rows
returns-clause-connector_punctuation c = refl

pub returns-clause-dash_punctuation : goal.returns-clause-dash_punctuation
unfolding general_category value_in general_category_rows
returns-clause-dash_punctuation c = refl

pub returns-clause-open_punctuation : goal.returns-clause-open_punctuation
unfolding general_category value_in general_category_rows
returns-clause-open_punctuation c = refl

pub returns-clause-close_punctuation : goal.returns-clause-close_punctuation
unfolding general_category value_in general_category_rows
returns-clause-close_punctuation c = refl

pub returns-clause-initial_punctuation : goal.returns-clause-initial_punctuation
unfolding general_category value_in general_category_rows
returns-clause-initial_punctuation c = refl

pub returns-clause-final_punctuation : goal.returns-clause-final_punctuation
unfolding general_category value_in general_category_rows
returns-clause-final_punctuation c = refl

pub returns-clause-other_punctuation : goal.returns-clause-other_punctuation
unfolding general_category value_in general_category_rows
returns-clause-other_punctuation c = refl

pub returns-clause-math_symbol : goal.returns-clause-math_symbol
unfolding general_category value_in general_category_rows
returns-clause-math_symbol c = refl

pub returns-clause-currency_symbol : goal.returns-clause-currency_symbol
unfolding general_category value_in general_category_rows
returns-clause-currency_symbol c = refl

pub returns-clause-modifier_symbol : goal.returns-clause-modifier_symbol
unfolding general_category value_in general_category_rows
returns-clause-modifier_symbol c = refl

pub returns-clause-other_symbol : goal.returns-clause-other_symbol
unfolding general_category value_in general_category_rows
returns-clause-other_symbol c = refl

pub returns-clause-space_separator : goal.returns-clause-space_separator
unfolding general_category value_in general_category_rows
returns-clause-space_separator c = refl

pub returns-clause-line_separator : goal.returns-clause-line_separator
unfolding general_category value_in general_category_rows
returns-clause-line_separator c = refl

pub returns-clause-paragraph_separator : goal.returns-clause-paragraph_separator
unfolding general_category value_in general_category_rows
returns-clause-paragraph_separator c = refl

pub returns-clause-control : goal.returns-clause-control
unfolding general_category value_in general_category_rows
returns-clause-control c = refl

pub returns-clause-format : goal.returns-clause-format
unfolding general_category value_in general_category_rows
returns-clause-format c = refl

pub returns-clause-surrogate : goal.returns-clause-surrogate
unfolding general_category value_in general_category_rows
returns-clause-surrogate c = refl

pub returns-clause-private_use : goal.returns-clause-private_use
unfolding general_category value_in general_category_rows
returns-clause-private_use c = refl

pub returns-clause-unassigned : goal.returns-clause-unassigned
unfolding general_category value_in general_category_rows
returns-clause-unassigned c = refl
