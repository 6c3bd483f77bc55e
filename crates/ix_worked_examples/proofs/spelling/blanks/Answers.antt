use Rattle.std.proofs.Common.{refl}
use Rattle.unicode.specs.GeneralCategory.{general_category}
use Rattle.unicode.specs.Rows.{value_in}
use Rattle.ucd_category.specs.GeneralCategoryRows.{general_category_rows}
use Rattle.ix_model.specs.Spelling.Characters.{is_blank, is_name_start, is_name_part}
use Rattle.ix_worked_examples.proofs.spelling.blanks.Goals as goal

pub returns-clause-tab : goal.returns-clause-tab
unfolding is_blank is_name_start is_name_part general_category value_in general_category_rows
returns-clause-tab c = refl

pub returns-clause-line_feed : goal.returns-clause-line_feed
unfolding is_blank is_name_start is_name_part general_category value_in general_category_rows
returns-clause-line_feed c = refl

pub returns-clause-carriage_return : goal.returns-clause-carriage_return
unfolding is_blank is_name_start is_name_part general_category value_in general_category_rows
returns-clause-carriage_return c = refl

pub returns-clause-space : goal.returns-clause-space
unfolding is_blank is_name_start is_name_part general_category value_in general_category_rows
returns-clause-space c = refl

pub returns-clause-no_break_space : goal.returns-clause-no_break_space
unfolding is_blank is_name_start is_name_part general_category value_in general_category_rows
returns-clause-no_break_space c = refl

pub returns-clause-form_feed : goal.returns-clause-form_feed
unfolding is_blank is_name_start is_name_part general_category value_in general_category_rows
returns-clause-form_feed c = refl

pub returns-clause-byte_order_mark : goal.returns-clause-byte_order_mark
unfolding is_blank is_name_start is_name_part general_category value_in general_category_rows
returns-clause-byte_order_mark c = refl
