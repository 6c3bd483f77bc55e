use Rattle.std.proofs.Common.{refl}
use Rattle.unicode.specs.GeneralCategory.{general_category}
use Rattle.unicode.specs.Rows.{value_in}
use Rattle.ucd_category.specs.GeneralCategoryRows.{general_category_rows}
use Rattle.ix_model.specs.Spelling.Characters.{is_blank, is_name_start, is_name_part}
use Rattle.ix_spelling_laws.proofs.ByReading.{reads_none}
use Rattle.ix_worked_examples.proofs.spellings.no_members.Goals as goal

pub returns-clause-no_high : goal.returns-clause-no_high
unfolding is_blank is_name_start is_name_part general_category value_in general_category_rows
returns-clause-no_high c = reads_none _ refl

pub returns-clause-no_low : goal.returns-clause-no_low
unfolding is_blank is_name_start is_name_part general_category value_in general_category_rows
returns-clause-no_low c = reads_none _ refl

pub returns-clause-comma : goal.returns-clause-comma
unfolding is_blank is_name_start is_name_part general_category value_in general_category_rows
returns-clause-comma c = reads_none _ refl

pub returns-clause-no_separator : goal.returns-clause-no_separator
unfolding is_blank is_name_start is_name_part general_category value_in general_category_rows
returns-clause-no_separator c = reads_none _ refl

pub returns-clause-last_separator : goal.returns-clause-last_separator
unfolding is_blank is_name_start is_name_part general_category value_in general_category_rows
returns-clause-last_separator c = reads_none _ refl

pub returns-clause-first_separator : goal.returns-clause-first_separator
unfolding is_blank is_name_start is_name_part general_category value_in general_category_rows
returns-clause-first_separator c = reads_none _ refl

pub returns-clause-small_class : goal.returns-clause-small_class
unfolding is_blank is_name_start is_name_part general_category value_in general_category_rows
returns-clause-small_class c = reads_none _ refl

pub returns-clause-three_letters : goal.returns-clause-three_letters
unfolding is_blank is_name_start is_name_part general_category value_in general_category_rows
returns-clause-three_letters c = reads_none _ refl

pub returns-clause-digit_class : goal.returns-clause-digit_class
unfolding is_blank is_name_start is_name_part general_category value_in general_category_rows
returns-clause-digit_class c = reads_none _ refl

pub returns-clause-two_capitals : goal.returns-clause-two_capitals
unfolding is_blank is_name_start is_name_part general_category value_in general_category_rows
returns-clause-two_capitals c = reads_none _ refl

pub returns-clause-empty_bound : goal.returns-clause-empty_bound
unfolding is_blank is_name_start is_name_part general_category value_in general_category_rows
returns-clause-empty_bound c = reads_none _ refl

pub returns-clause-long_bound : goal.returns-clause-long_bound
unfolding is_blank is_name_start is_name_part general_category value_in general_category_rows
returns-clause-long_bound c = reads_none _ refl

pub returns-clause-long_high : goal.returns-clause-long_high
unfolding is_blank is_name_start is_name_part general_category value_in general_category_rows
returns-clause-long_high c = reads_none _ refl

pub returns-clause-two_quotes : goal.returns-clause-two_quotes
unfolding is_blank is_name_start is_name_part general_category value_in general_category_rows
returns-clause-two_quotes c = reads_none _ refl

pub returns-clause-class_bound : goal.returns-clause-class_bound
unfolding is_blank is_name_start is_name_part general_category value_in general_category_rows
returns-clause-class_bound c = reads_none _ refl

pub returns-clause-set_within : goal.returns-clause-set_within
unfolding is_blank is_name_start is_name_part general_category value_in general_category_rows
returns-clause-set_within c = reads_none _ refl

pub returns-clause-open_set : goal.returns-clause-open_set
unfolding is_blank is_name_start is_name_part general_category value_in general_category_rows
returns-clause-open_set c = reads_none _ refl
