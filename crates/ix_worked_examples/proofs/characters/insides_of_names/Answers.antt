use Rattle.std.proofs.Common.{refl}
use Rattle.unicode.specs.GeneralCategory.{general_category}
use Rattle.unicode.specs.Rows.{value_in}
use Rattle.ucd_category.specs.GeneralCategoryRows.{general_category_rows}
use Rattle.ix_model.specs.Spelling.Characters.{is_blank, is_name_start, is_name_part}
use Rattle.ix_worked_examples.proofs.characters.insides_of_names.Goals as goal

pub returns-clause-low_line : goal.returns-clause-low_line
unfolding is_blank is_name_start is_name_part general_category value_in general_category_rows
returns-clause-low_line c = refl

pub returns-clause-letters : goal.returns-clause-letters
unfolding is_blank is_name_start is_name_part general_category value_in general_category_rows
returns-clause-letters c = refl

pub returns-clause-hyphen_and_stop : goal.returns-clause-hyphen_and_stop
unfolding is_blank is_name_start is_name_part general_category value_in general_category_rows
returns-clause-hyphen_and_stop c = refl

pub returns-clause-middle_dot : goal.returns-clause-middle_dot
unfolding is_blank is_name_start is_name_part general_category value_in general_category_rows
returns-clause-middle_dot c = refl

pub returns-clause-ties : goal.returns-clause-ties
unfolding is_blank is_name_start is_name_part general_category value_in general_category_rows
returns-clause-ties c = refl

pub returns-clause-digits : goal.returns-clause-digits
unfolding is_blank is_name_start is_name_part general_category value_in general_category_rows
returns-clause-digits c = refl

pub returns-clause-colon : goal.returns-clause-colon
unfolding is_blank is_name_start is_name_part general_category value_in general_category_rows
returns-clause-colon c = refl

pub returns-clause-other_numbers : goal.returns-clause-other_numbers
unfolding is_blank is_name_start is_name_part general_category value_in general_category_rows
returns-clause-other_numbers c = refl

pub returns-clause-marks : goal.returns-clause-marks
unfolding is_blank is_name_start is_name_part general_category value_in general_category_rows
returns-clause-marks c = refl

pub returns-clause-others : goal.returns-clause-others
unfolding is_blank is_name_start is_name_part general_category value_in general_category_rows
returns-clause-others c = refl
