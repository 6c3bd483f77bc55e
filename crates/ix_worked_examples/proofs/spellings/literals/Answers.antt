use Rattle.std.proofs.Common.{refl}
use Rattle.unicode.specs.GeneralCategory.{general_category}
use Rattle.unicode.specs.Rows.{value_in}
use Rattle.ucd_category.specs.GeneralCategoryRows.{general_category_rows}
use Rattle.ix_model.specs.Spelling.Characters.{is_blank, is_name_start, is_name_part}
use Rattle.ix_spelling_laws.proofs.ByReading.{reads}
use Rattle.ix_worked_examples.proofs.spellings.literals.Goals as goal

pub returns-clause-apostrophes : goal.returns-clause-apostrophes
unfolding is_blank is_name_start is_name_part general_category value_in general_category_rows
returns-clause-apostrophes c = reads _ _ refl

pub returns-clause-doubled_quote : goal.returns-clause-doubled_quote
unfolding is_blank is_name_start is_name_part general_category value_in general_category_rows
returns-clause-doubled_quote c = reads _ _ refl

pub returns-clause-doubled_apostrophe : goal.returns-clause-doubled_apostrophe
unfolding is_blank is_name_start is_name_part general_category value_in general_category_rows
returns-clause-doubled_apostrophe c = reads _ _ refl

pub returns-clause-other_quote : goal.returns-clause-other_quote
unfolding is_blank is_name_start is_name_part general_category value_in general_category_rows
returns-clause-other_quote c = reads _ _ refl

pub returns-clause-empty : goal.returns-clause-empty
unfolding is_blank is_name_start is_name_part general_category value_in general_category_rows
returns-clause-empty c = reads _ _ refl

pub returns-clause-number : goal.returns-clause-number
unfolding is_blank is_name_start is_name_part general_category value_in general_category_rows
returns-clause-number c = reads _ _ refl

pub returns-clause-zeros : goal.returns-clause-zeros
unfolding is_blank is_name_start is_name_part general_category value_in general_category_rows
returns-clause-zeros c = reads _ _ refl

pub returns-clause-shown : goal.returns-clause-shown
unfolding is_blank is_name_start is_name_part general_category value_in general_category_rows
returns-clause-shown c = reads _ _ refl

pub returns-clause-deleted : goal.returns-clause-deleted
unfolding is_blank is_name_start is_name_part general_category value_in general_category_rows
returns-clause-deleted c = reads _ _ refl

pub returns-clause-shown_number : goal.returns-clause-shown_number
unfolding is_blank is_name_start is_name_part general_category value_in general_category_rows
returns-clause-shown_number c = reads _ _ refl

pub returns-clause-deleted_number : goal.returns-clause-deleted_number
unfolding is_blank is_name_start is_name_part general_category value_in general_category_rows
returns-clause-deleted_number c = reads _ _ refl

pub returns-clause-spaced : goal.returns-clause-spaced
unfolding is_blank is_name_start is_name_part general_category value_in general_category_rows
returns-clause-spaced c = reads _ _ refl
