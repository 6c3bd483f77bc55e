use Rattle.std.proofs.Common.{refl}
use Rattle.unicode.specs.GeneralCategory.{general_category}
use Rattle.unicode.specs.Rows.{value_in}
use Rattle.ucd_category.specs.GeneralCategoryRows.{general_category_rows}
use Rattle.ix_model.specs.Spelling.Characters.{is_blank, is_name_start, is_name_part}
use Rattle.ix_spelling_laws.proofs.ByReading.{reads}
use Rattle.ix_worked_examples.proofs.spellings.repetitions.Goals as goal

pub returns-clause-option : goal.returns-clause-option
unfolding is_blank is_name_start is_name_part general_category value_in general_category_rows
returns-clause-option c = reads _ _ refl

pub returns-clause-star : goal.returns-clause-star
unfolding is_blank is_name_start is_name_part general_category value_in general_category_rows
returns-clause-star c = reads _ _ refl

pub returns-clause-plus : goal.returns-clause-plus
unfolding is_blank is_name_start is_name_part general_category value_in general_category_rows
returns-clause-plus c = reads _ _ refl

pub returns-clause-star_by : goal.returns-clause-star_by
unfolding is_blank is_name_start is_name_part general_category value_in general_category_rows
returns-clause-star_by c = reads _ _ refl

pub returns-clause-plus_by : goal.returns-clause-plus_by
unfolding is_blank is_name_start is_name_part general_category value_in general_category_rows
returns-clause-plus_by c = reads _ _ refl

pub returns-clause-spaced : goal.returns-clause-spaced
unfolding is_blank is_name_start is_name_part general_category value_in general_category_rows
returns-clause-spaced c = reads _ _ refl

pub returns-clause-spaced_plus : goal.returns-clause-spaced_plus
unfolding is_blank is_name_start is_name_part general_category value_in general_category_rows
returns-clause-spaced_plus c = reads _ _ refl

pub returns-clause-spaced_option : goal.returns-clause-spaced_option
unfolding is_blank is_name_start is_name_part general_category value_in general_category_rows
returns-clause-spaced_option c = reads _ _ refl

pub returns-clause-of_group : goal.returns-clause-of_group
unfolding is_blank is_name_start is_name_part general_category value_in general_category_rows
returns-clause-of_group c = reads _ _ refl

pub returns-clause-inserted_separator : goal.returns-clause-inserted_separator
unfolding is_blank is_name_start is_name_part general_category value_in general_category_rows
returns-clause-inserted_separator c = reads _ _ refl
