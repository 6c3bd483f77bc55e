use Rattle.std.proofs.Common.{refl}
use Rattle.unicode.specs.GeneralCategory.{general_category}
use Rattle.unicode.specs.Rows.{value_in}
use Rattle.ucd_category.specs.GeneralCategoryRows.{general_category_rows}
use Rattle.ix_model.specs.Spelling.Characters.{is_blank, is_name_start, is_name_part}
use Rattle.ix_worked_examples.proofs.characters.beginnings_of_names.Goals as goal

pub returns-clause-low_line : goal.returns-clause-low_line
unfolding is_blank is_name_start is_name_part general_category value_in general_category_rows
returns-clause-low_line c = refl

pub returns-clause-letters : goal.returns-clause-letters
unfolding is_blank is_name_start is_name_part general_category value_in general_category_rows
returns-clause-letters c = refl

pub returns-clause-numbers : goal.returns-clause-numbers
unfolding is_blank is_name_start is_name_part general_category value_in general_category_rows
returns-clause-numbers c = refl

pub returns-clause-marks : goal.returns-clause-marks
unfolding is_blank is_name_start is_name_part general_category value_in general_category_rows
returns-clause-marks c = refl

pub returns-clause-punctuation : goal.returns-clause-punctuation
unfolding is_blank is_name_start is_name_part general_category value_in general_category_rows
returns-clause-punctuation c = refl

pub returns-clause-others : goal.returns-clause-others
unfolding is_blank is_name_start is_name_part general_category value_in general_category_rows
returns-clause-others c = refl
