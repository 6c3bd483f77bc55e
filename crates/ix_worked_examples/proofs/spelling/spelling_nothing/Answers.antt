use Rattle.std.proofs.Common.{refl}
use Rattle.unicode.specs.GeneralCategory.{general_category}
use Rattle.unicode.specs.Rows.{value_in}
use Rattle.ucd_category.specs.GeneralCategoryRows.{general_category_rows}
use Rattle.ix_model.specs.Spelling.Characters.{is_blank, is_name_start, is_name_part}
use Rattle.ix_spelling_laws.proofs.ByReading.{reads_none}
use Rattle.ix_worked_examples.proofs.spelling.spelling_nothing.Goals as goal

pub returns-clause-empty : goal.returns-clause-empty
unfolding is_blank is_name_start is_name_part general_category value_in general_category_rows
returns-clause-empty c = reads_none _ refl

pub returns-clause-comma : goal.returns-clause-comma
unfolding is_blank is_name_start is_name_part general_category value_in general_category_rows
returns-clause-comma c = reads_none _ refl

pub returns-clause-two_capitals : goal.returns-clause-two_capitals
unfolding is_blank is_name_start is_name_part general_category value_in general_category_rows
returns-clause-two_capitals c = reads_none _ refl

pub returns-clause-open_comment : goal.returns-clause-open_comment
unfolding is_blank is_name_start is_name_part general_category value_in general_category_rows
returns-clause-open_comment c = reads_none _ refl

pub returns-clause-open_string : goal.returns-clause-open_string
unfolding is_blank is_name_start is_name_part general_category value_in general_category_rows
returns-clause-open_string c = reads_none _ refl

pub returns-clause-no_stop : goal.returns-clause-no_stop
unfolding is_blank is_name_start is_name_part general_category value_in general_category_rows
returns-clause-no_stop c = reads_none _ refl

pub returns-clause-parted : goal.returns-clause-parted
unfolding is_blank is_name_start is_name_part general_category value_in general_category_rows
returns-clause-parted c = reads_none _ refl

pub returns-clause-rules_without_space : goal.returns-clause-rules_without_space
unfolding is_blank is_name_start is_name_part general_category value_in general_category_rows
returns-clause-rules_without_space c = reads_none _ refl

pub returns-clause-version_without_space : goal.returns-clause-version_without_space
unfolding is_blank is_name_start is_name_part general_category value_in general_category_rows
returns-clause-version_without_space c = reads_none _ refl

pub returns-clause-open_parenthesis : goal.returns-clause-open_parenthesis
unfolding is_blank is_name_start is_name_part general_category value_in general_category_rows
returns-clause-open_parenthesis c = reads_none _ refl

pub returns-clause-two_characters : goal.returns-clause-two_characters
unfolding is_blank is_name_start is_name_part general_category value_in general_category_rows
returns-clause-two_characters c = reads_none _ refl
