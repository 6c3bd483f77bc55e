use Rattle.std.proofs.Common.{refl}
use Rattle.unicode.specs.GeneralCategory.{general_category}
use Rattle.unicode.specs.Rows.{value_in}
use Rattle.ucd_category.specs.GeneralCategoryRows.{general_category_rows}
use Rattle.ix_model.specs.Spelling.Characters.{is_blank, is_name_start, is_name_part}
use Rattle.ix_spelling_laws.proofs.ByReading.{reads}
use Rattle.ix_worked_examples.proofs.spellings.sets.Goals as goal

pub returns-clause-empty : goal.returns-clause-empty
unfolding is_blank is_name_start is_name_part general_category value_in general_category_rows
returns-clause-empty c = reads _ _ refl

pub returns-clause-excludes_none : goal.returns-clause-excludes_none
unfolding is_blank is_name_start is_name_part general_category value_in general_category_rows
returns-clause-excludes_none c = reads _ _ refl

pub returns-clause-empty_string : goal.returns-clause-empty_string
unfolding is_blank is_name_start is_name_part general_category value_in general_category_rows
returns-clause-empty_string c = reads _ _ refl

pub returns-clause-excludes_empty_string : goal.returns-clause-excludes_empty_string
unfolding is_blank is_name_start is_name_part general_category value_in general_category_rows
returns-clause-excludes_empty_string c = reads _ _ refl

pub returns-clause-shown : goal.returns-clause-shown
unfolding is_blank is_name_start is_name_part general_category value_in general_category_rows
returns-clause-shown c = reads _ _ refl

pub returns-clause-deleted : goal.returns-clause-deleted
unfolding is_blank is_name_start is_name_part general_category value_in general_category_rows
returns-clause-deleted c = reads _ _ refl

pub returns-clause-excluded : goal.returns-clause-excluded
unfolding is_blank is_name_start is_name_part general_category value_in general_category_rows
returns-clause-excluded c = reads _ _ refl

pub returns-clause-deleted_exclusion : goal.returns-clause-deleted_exclusion
unfolding is_blank is_name_start is_name_part general_category value_in general_category_rows
returns-clause-deleted_exclusion c = reads _ _ refl

pub returns-clause-shown_exclusion : goal.returns-clause-shown_exclusion
unfolding is_blank is_name_start is_name_part general_category value_in general_category_rows
returns-clause-shown_exclusion c = reads _ _ refl

pub returns-clause-numbers : goal.returns-clause-numbers
unfolding is_blank is_name_start is_name_part general_category value_in general_category_rows
returns-clause-numbers c = reads _ _ refl

pub returns-clause-classes : goal.returns-clause-classes
unfolding is_blank is_name_start is_name_part general_category value_in general_category_rows
returns-clause-classes c = reads _ _ refl

pub returns-clause-three : goal.returns-clause-three
unfolding is_blank is_name_start is_name_part general_category value_in general_category_rows
returns-clause-three c = reads _ _ refl
