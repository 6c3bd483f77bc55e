use Rattle.std.proofs.Common.{refl}
use Rattle.unicode.specs.GeneralCategory.{general_category}
use Rattle.unicode.specs.Rows.{value_in}
use Rattle.ucd_category.specs.GeneralCategoryRows.{general_category_rows}
use Rattle.ix_model.specs.Spelling.Characters.{is_blank, is_name_start, is_name_part}
use Rattle.ix_spelling_laws.proofs.ByReading.{reads}
use Rattle.ix_worked_examples.proofs.spellings.calls_and_insertions.Goals as goal

pub returns-clause-plain : goal.returns-clause-plain
unfolding is_blank is_name_start is_name_part general_category value_in general_category_rows
returns-clause-plain c = reads _ _ refl

pub returns-clause-attribute : goal.returns-clause-attribute
unfolding is_blank is_name_start is_name_part general_category value_in general_category_rows
returns-clause-attribute c = reads _ _ refl

pub returns-clause-element : goal.returns-clause-element
unfolding is_blank is_name_start is_name_part general_category value_in general_category_rows
returns-clause-element c = reads _ _ refl

pub returns-clause-hidden : goal.returns-clause-hidden
unfolding is_blank is_name_start is_name_part general_category value_in general_category_rows
returns-clause-hidden c = reads _ _ refl

pub returns-clause-spaced : goal.returns-clause-spaced
unfolding is_blank is_name_start is_name_part general_category value_in general_category_rows
returns-clause-spaced c = reads _ _ refl

pub returns-clause-long_name : goal.returns-clause-long_name
unfolding is_blank is_name_start is_name_part general_category value_in general_category_rows
returns-clause-long_name c = reads _ _ refl

pub returns-clause-string : goal.returns-clause-string
unfolding is_blank is_name_start is_name_part general_category value_in general_category_rows
returns-clause-string c = reads _ _ refl

pub returns-clause-apostrophes : goal.returns-clause-apostrophes
unfolding is_blank is_name_start is_name_part general_category value_in general_category_rows
returns-clause-apostrophes c = reads _ _ refl

pub returns-clause-inserted_number : goal.returns-clause-inserted_number
unfolding is_blank is_name_start is_name_part general_category value_in general_category_rows
returns-clause-inserted_number c = reads _ _ refl

pub returns-clause-nothing_inserted : goal.returns-clause-nothing_inserted
unfolding is_blank is_name_start is_name_part general_category value_in general_category_rows
returns-clause-nothing_inserted c = reads _ _ refl
