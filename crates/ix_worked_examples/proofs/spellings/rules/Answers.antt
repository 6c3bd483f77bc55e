use Rattle.std.proofs.Common.{refl}
use Rattle.unicode.specs.GeneralCategory.{general_category}
use Rattle.unicode.specs.Rows.{value_in}
use Rattle.ucd_category.specs.GeneralCategoryRows.{general_category_rows}
use Rattle.ix_model.specs.Spelling.Characters.{is_blank, is_name_start, is_name_part}
use Rattle.ix_spelling_laws.proofs.ByReading.{reads}
use Rattle.ix_worked_examples.proofs.spellings.rules.Goals as goal

pub returns-clause-equals : goal.returns-clause-equals
unfolding is_blank is_name_start is_name_part general_category value_in general_category_rows
returns-clause-equals c = reads _ _ refl

pub returns-clause-spaced : goal.returns-clause-spaced
unfolding is_blank is_name_start is_name_part general_category value_in general_category_rows
returns-clause-spaced c = reads _ _ refl

pub returns-clause-attribute : goal.returns-clause-attribute
unfolding is_blank is_name_start is_name_part general_category value_in general_category_rows
returns-clause-attribute c = reads _ _ refl

pub returns-clause-element : goal.returns-clause-element
unfolding is_blank is_name_start is_name_part general_category value_in general_category_rows
returns-clause-element c = reads _ _ refl

pub returns-clause-hidden : goal.returns-clause-hidden
unfolding is_blank is_name_start is_name_part general_category value_in general_category_rows
returns-clause-hidden c = reads _ _ refl

pub returns-clause-spaced_mark : goal.returns-clause-spaced_mark
unfolding is_blank is_name_start is_name_part general_category value_in general_category_rows
returns-clause-spaced_mark c = reads _ _ refl

pub returns-clause-semicolon : goal.returns-clause-semicolon
unfolding is_blank is_name_start is_name_part general_category value_in general_category_rows
returns-clause-semicolon c = reads _ _ refl

pub returns-clause-bar : goal.returns-clause-bar
unfolding is_blank is_name_start is_name_part general_category value_in general_category_rows
returns-clause-bar c = reads _ _ refl

pub returns-clause-two : goal.returns-clause-two
unfolding is_blank is_name_start is_name_part general_category value_in general_category_rows
returns-clause-two c = reads _ _ refl

pub returns-clause-two_by_comment : goal.returns-clause-two_by_comment
unfolding is_blank is_name_start is_name_part general_category value_in general_category_rows
returns-clause-two_by_comment c = reads _ _ refl

pub returns-clause-sequence : goal.returns-clause-sequence
unfolding is_blank is_name_start is_name_part general_category value_in general_category_rows
returns-clause-sequence c = reads _ _ refl

pub returns-clause-empty_last : goal.returns-clause-empty_last
unfolding is_blank is_name_start is_name_part general_category value_in general_category_rows
returns-clause-empty_last c = reads _ _ refl
