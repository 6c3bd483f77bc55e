use Rattle.std.proofs.Common.{refl}
use Rattle.unicode.specs.GeneralCategory.{general_category}
use Rattle.unicode.specs.Rows.{value_in}
use Rattle.ucd_category.specs.GeneralCategoryRows.{general_category_rows}
use Rattle.ix_model.specs.Spelling.Characters.{is_blank, is_name_start, is_name_part}
use Rattle.ix_spelling_laws.proofs.ByReading.{reads}
use Rattle.ix_worked_examples.proofs.spellings.groups.Goals as goal

pub returns-clause-one : goal.returns-clause-one
unfolding is_blank is_name_start is_name_part general_category value_in general_category_rows
returns-clause-one c = reads _ _ refl

pub returns-clause-empty : goal.returns-clause-empty
unfolding is_blank is_name_start is_name_part general_category value_in general_category_rows
returns-clause-empty c = reads _ _ refl

pub returns-clause-spaced_empty : goal.returns-clause-spaced_empty
unfolding is_blank is_name_start is_name_part general_category value_in general_category_rows
returns-clause-spaced_empty c = reads _ _ refl

pub returns-clause-two : goal.returns-clause-two
unfolding is_blank is_name_start is_name_part general_category value_in general_category_rows
returns-clause-two c = reads _ _ refl

pub returns-clause-bar : goal.returns-clause-bar
unfolding is_blank is_name_start is_name_part general_category value_in general_category_rows
returns-clause-bar c = reads _ _ refl

pub returns-clause-second_empty : goal.returns-clause-second_empty
unfolding is_blank is_name_start is_name_part general_category value_in general_category_rows
returns-clause-second_empty c = reads _ _ refl

pub returns-clause-first_empty : goal.returns-clause-first_empty
unfolding is_blank is_name_start is_name_part general_category value_in general_category_rows
returns-clause-first_empty c = reads _ _ refl

pub returns-clause-sequence : goal.returns-clause-sequence
unfolding is_blank is_name_start is_name_part general_category value_in general_category_rows
returns-clause-sequence c = reads _ _ refl
