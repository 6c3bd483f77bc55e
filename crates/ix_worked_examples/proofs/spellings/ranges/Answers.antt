use Rattle.std.proofs.Common.{refl}
use Rattle.unicode.specs.GeneralCategory.{general_category}
use Rattle.unicode.specs.Rows.{value_in}
use Rattle.ucd_category.specs.GeneralCategoryRows.{general_category_rows}
use Rattle.ix_model.specs.Spelling.Characters.{is_blank, is_name_start, is_name_part}
use Rattle.ix_spelling_laws.proofs.ByReading.{reads}
use Rattle.ix_worked_examples.proofs.spellings.ranges.Goals as goal

pub returns-clause-characters : goal.returns-clause-characters
unfolding is_blank is_name_start is_name_part general_category value_in general_category_rows
returns-clause-characters c = reads _ _ refl

pub returns-clause-numbers : goal.returns-clause-numbers
unfolding is_blank is_name_start is_name_part general_category value_in general_category_rows
returns-clause-numbers c = reads _ _ refl

pub returns-clause-number_first : goal.returns-clause-number_first
unfolding is_blank is_name_start is_name_part general_category value_in general_category_rows
returns-clause-number_first c = reads _ _ refl

pub returns-clause-number_last : goal.returns-clause-number_last
unfolding is_blank is_name_start is_name_part general_category value_in general_category_rows
returns-clause-number_last c = reads _ _ refl

pub returns-clause-doubled_quotes : goal.returns-clause-doubled_quotes
unfolding is_blank is_name_start is_name_part general_category value_in general_category_rows
returns-clause-doubled_quotes c = reads _ _ refl

pub returns-clause-two : goal.returns-clause-two
unfolding is_blank is_name_start is_name_part general_category value_in general_category_rows
returns-clause-two c = reads _ _ refl
