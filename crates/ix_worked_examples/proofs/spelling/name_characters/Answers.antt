use Rattle.std.proofs.Common.{refl}
use Rattle.unicode.specs.GeneralCategory.{general_category}
use Rattle.unicode.specs.Rows.{value_in}
use Rattle.ucd_category.specs.GeneralCategoryRows.{general_category_rows}
use Rattle.ix_model.specs.Spelling.Characters.{is_blank, is_name_start, is_name_part}
use Rattle.ix_worked_examples.proofs.spelling.name_characters.Goals as goal

pub returns-clause-low_line : goal.returns-clause-low_line
unfolding is_blank is_name_start is_name_part general_category value_in general_category_rows
returns-clause-low_line c = refl

pub returns-clause-letter : goal.returns-clause-letter
unfolding is_blank is_name_start is_name_part general_category value_in general_category_rows
returns-clause-letter c = refl

pub returns-clause-digit : goal.returns-clause-digit
unfolding is_blank is_name_start is_name_part general_category value_in general_category_rows
returns-clause-digit c = refl

pub returns-clause-hyphen : goal.returns-clause-hyphen
unfolding is_blank is_name_start is_name_part general_category value_in general_category_rows
returns-clause-hyphen c = refl

pub returns-clause-start_within : goal.returns-clause-start_within
unfolding is_blank is_name_start is_name_part general_category value_in general_category_rows
returns-clause-start_within c = refl

pub returns-clause-digit_within : goal.returns-clause-digit_within
unfolding is_blank is_name_start is_name_part general_category value_in general_category_rows
returns-clause-digit_within c = refl

pub returns-clause-hyphen_within : goal.returns-clause-hyphen_within
unfolding is_blank is_name_start is_name_part general_category value_in general_category_rows
returns-clause-hyphen_within c = refl

pub returns-clause-stop_within : goal.returns-clause-stop_within
unfolding is_blank is_name_start is_name_part general_category value_in general_category_rows
returns-clause-stop_within c = refl

pub returns-clause-dot_within : goal.returns-clause-dot_within
unfolding is_blank is_name_start is_name_part general_category value_in general_category_rows
returns-clause-dot_within c = refl

pub returns-clause-accent_within : goal.returns-clause-accent_within
unfolding is_blank is_name_start is_name_part general_category value_in general_category_rows
returns-clause-accent_within c = refl

pub returns-clause-colon : goal.returns-clause-colon
unfolding is_blank is_name_start is_name_part general_category value_in general_category_rows
returns-clause-colon c = refl

pub returns-clause-space : goal.returns-clause-space
unfolding is_blank is_name_start is_name_part general_category value_in general_category_rows
returns-clause-space c = refl
