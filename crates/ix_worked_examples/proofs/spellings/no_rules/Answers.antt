use Rattle.std.proofs.Common.{refl}
use Rattle.unicode.specs.GeneralCategory.{general_category}
use Rattle.unicode.specs.Rows.{value_in}
use Rattle.ucd_category.specs.GeneralCategoryRows.{general_category_rows}
use Rattle.ix_model.specs.Spelling.Characters.{is_blank, is_name_start, is_name_part}
use Rattle.ix_spelling_laws.proofs.ByReading.{reads_none}
use Rattle.ix_worked_examples.proofs.spellings.no_rules.Goals as goal

pub returns-clause-spacing_alone : goal.returns-clause-spacing_alone
unfolding is_blank is_name_start is_name_part general_category value_in general_category_rows
returns-clause-spacing_alone c = reads_none _ refl

pub returns-clause-no_colon : goal.returns-clause-no_colon
unfolding is_blank is_name_start is_name_part general_category value_in general_category_rows
returns-clause-no_colon c = reads_none _ refl

pub returns-clause-two_colons : goal.returns-clause-two_colons
unfolding is_blank is_name_start is_name_part general_category value_in general_category_rows
returns-clause-two_colons c = reads_none _ refl

pub returns-clause-two_marks : goal.returns-clause-two_marks
unfolding is_blank is_name_start is_name_part general_category value_in general_category_rows
returns-clause-two_marks c = reads_none _ refl

pub returns-clause-no_name : goal.returns-clause-no_name
unfolding is_blank is_name_start is_name_part general_category value_in general_category_rows
returns-clause-no_name c = reads_none _ refl

pub returns-clause-no_stop : goal.returns-clause-no_stop
unfolding is_blank is_name_start is_name_part general_category value_in general_category_rows
returns-clause-no_stop c = reads_none _ refl

pub returns-clause-two_stops : goal.returns-clause-two_stops
unfolding is_blank is_name_start is_name_part general_category value_in general_category_rows
returns-clause-two_stops c = reads_none _ refl

pub returns-clause-no_space : goal.returns-clause-no_space
unfolding is_blank is_name_start is_name_part general_category value_in general_category_rows
returns-clause-no_space c = reads_none _ refl

pub returns-clause-version_alone : goal.returns-clause-version_alone
unfolding is_blank is_name_start is_name_part general_category value_in general_category_rows
returns-clause-version_alone c = reads_none _ refl

pub returns-clause-version_without_stop : goal.returns-clause-version_without_stop
unfolding is_blank is_name_start is_name_part general_category value_in general_category_rows
returns-clause-version_without_stop c = reads_none _ refl

pub returns-clause-version_without_quotes : goal.returns-clause-version_without_quotes
unfolding is_blank is_name_start is_name_part general_category value_in general_category_rows
returns-clause-version_without_quotes c = reads_none _ refl

pub returns-clause-no_version : goal.returns-clause-no_version
unfolding is_blank is_name_start is_name_part general_category value_in general_category_rows
returns-clause-no_version c = reads_none _ refl

pub returns-clause-joined_version : goal.returns-clause-joined_version
unfolding is_blank is_name_start is_name_part general_category value_in general_category_rows
returns-clause-joined_version c = reads_none _ refl

pub returns-clause-other_word : goal.returns-clause-other_word
unfolding is_blank is_name_start is_name_part general_category value_in general_category_rows
returns-clause-other_word c = reads_none _ refl

pub returns-clause-version_behind : goal.returns-clause-version_behind
unfolding is_blank is_name_start is_name_part general_category value_in general_category_rows
returns-clause-version_behind c = reads_none _ refl

pub returns-clause-two_versions : goal.returns-clause-two_versions
unfolding is_blank is_name_start is_name_part general_category value_in general_category_rows
returns-clause-two_versions c = reads_none _ refl

pub returns-clause-open_comment : goal.returns-clause-open_comment
unfolding is_blank is_name_start is_name_part general_category value_in general_category_rows
returns-clause-open_comment c = reads_none _ refl

pub returns-clause-closed_comment : goal.returns-clause-closed_comment
unfolding is_blank is_name_start is_name_part general_category value_in general_category_rows
returns-clause-closed_comment c = reads_none _ refl
