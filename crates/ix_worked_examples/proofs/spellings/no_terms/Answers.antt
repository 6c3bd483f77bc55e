use Rattle.std.proofs.Common.{refl}
use Rattle.unicode.specs.GeneralCategory.{general_category}
use Rattle.unicode.specs.Rows.{value_in}
use Rattle.ucd_category.specs.GeneralCategoryRows.{general_category_rows}
use Rattle.ix_model.specs.Spelling.Characters.{is_blank, is_name_start, is_name_part}
use Rattle.ix_spelling_laws.proofs.ByReading.{reads_none}
use Rattle.ix_worked_examples.proofs.spellings.no_terms.Goals as goal

pub returns-clause-two_marks : goal.returns-clause-two_marks
unfolding is_blank is_name_start is_name_part general_category value_in general_category_rows
returns-clause-two_marks c = reads_none _ refl

pub returns-clause-attribute_literal : goal.returns-clause-attribute_literal
unfolding is_blank is_name_start is_name_part general_category value_in general_category_rows
returns-clause-attribute_literal c = reads_none _ refl

pub returns-clause-tilde_literal : goal.returns-clause-tilde_literal
unfolding is_blank is_name_start is_name_part general_category value_in general_category_rows
returns-clause-tilde_literal c = reads_none _ refl

pub returns-clause-two_tildes : goal.returns-clause-two_tildes
unfolding is_blank is_name_start is_name_part general_category value_in general_category_rows
returns-clause-two_tildes c = reads_none _ refl

pub returns-clause-mark_behind_tilde : goal.returns-clause-mark_behind_tilde
unfolding is_blank is_name_start is_name_part general_category value_in general_category_rows
returns-clause-mark_behind_tilde c = reads_none _ refl

pub returns-clause-attribute_set : goal.returns-clause-attribute_set
unfolding is_blank is_name_start is_name_part general_category value_in general_category_rows
returns-clause-attribute_set c = reads_none _ refl

pub returns-clause-marked_insertion : goal.returns-clause-marked_insertion
unfolding is_blank is_name_start is_name_part general_category value_in general_category_rows
returns-clause-marked_insertion c = reads_none _ refl

pub returns-clause-inserted_name : goal.returns-clause-inserted_name
unfolding is_blank is_name_start is_name_part general_category value_in general_category_rows
returns-clause-inserted_name c = reads_none _ refl

pub returns-clause-inserted_set : goal.returns-clause-inserted_set
unfolding is_blank is_name_start is_name_part general_category value_in general_category_rows
returns-clause-inserted_set c = reads_none _ refl

pub returns-clause-marked_group : goal.returns-clause-marked_group
unfolding is_blank is_name_start is_name_part general_category value_in general_category_rows
returns-clause-marked_group c = reads_none _ refl

pub returns-clause-no_digit : goal.returns-clause-no_digit
unfolding is_blank is_name_start is_name_part general_category value_in general_category_rows
returns-clause-no_digit c = reads_none _ refl

pub returns-clause-no_hexadecimal : goal.returns-clause-no_hexadecimal
unfolding is_blank is_name_start is_name_part general_category value_in general_category_rows
returns-clause-no_hexadecimal c = reads_none _ refl

pub returns-clause-parted_number : goal.returns-clause-parted_number
unfolding is_blank is_name_start is_name_part general_category value_in general_category_rows
returns-clause-parted_number c = reads_none _ refl

pub returns-clause-open_group : goal.returns-clause-open_group
unfolding is_blank is_name_start is_name_part general_category value_in general_category_rows
returns-clause-open_group c = reads_none _ refl

pub returns-clause-closed_group : goal.returns-clause-closed_group
unfolding is_blank is_name_start is_name_part general_category value_in general_category_rows
returns-clause-closed_group c = reads_none _ refl

pub returns-clause-two_options : goal.returns-clause-two_options
unfolding is_blank is_name_start is_name_part general_category value_in general_category_rows
returns-clause-two_options c = reads_none _ refl

pub returns-clause-option_of_star : goal.returns-clause-option_of_star
unfolding is_blank is_name_start is_name_part general_category value_in general_category_rows
returns-clause-option_of_star c = reads_none _ refl

pub returns-clause-no_separator : goal.returns-clause-no_separator
unfolding is_blank is_name_start is_name_part general_category value_in general_category_rows
returns-clause-no_separator c = reads_none _ refl

pub returns-clause-parted_stars : goal.returns-clause-parted_stars
unfolding is_blank is_name_start is_name_part general_category value_in general_category_rows
returns-clause-parted_stars c = reads_none _ refl

pub returns-clause-three_stars : goal.returns-clause-three_stars
unfolding is_blank is_name_start is_name_part general_category value_in general_category_rows
returns-clause-three_stars c = reads_none _ refl

pub returns-clause-two_separators : goal.returns-clause-two_separators
unfolding is_blank is_name_start is_name_part general_category value_in general_category_rows
returns-clause-two_separators c = reads_none _ refl

pub returns-clause-no_comma : goal.returns-clause-no_comma
unfolding is_blank is_name_start is_name_part general_category value_in general_category_rows
returns-clause-no_comma c = reads_none _ refl

pub returns-clause-last_comma : goal.returns-clause-last_comma
unfolding is_blank is_name_start is_name_part general_category value_in general_category_rows
returns-clause-last_comma c = reads_none _ refl

pub returns-clause-first_comma : goal.returns-clause-first_comma
unfolding is_blank is_name_start is_name_part general_category value_in general_category_rows
returns-clause-first_comma c = reads_none _ refl

pub returns-clause-comma_in_group : goal.returns-clause-comma_in_group
unfolding is_blank is_name_start is_name_part general_category value_in general_category_rows
returns-clause-comma_in_group c = reads_none _ refl

pub returns-clause-other_quotes : goal.returns-clause-other_quotes
unfolding is_blank is_name_start is_name_part general_category value_in general_category_rows
returns-clause-other_quotes c = reads_none _ refl

pub returns-clause-digit_first : goal.returns-clause-digit_first
unfolding is_blank is_name_start is_name_part general_category value_in general_category_rows
returns-clause-digit_first c = reads_none _ refl

pub returns-clause-class_outside : goal.returns-clause-class_outside
unfolding is_blank is_name_start is_name_part general_category value_in general_category_rows
returns-clause-class_outside c = reads_none _ refl

pub returns-clause-at_alone : goal.returns-clause-at_alone
unfolding is_blank is_name_start is_name_part general_category value_in general_category_rows
returns-clause-at_alone c = reads_none _ refl
