use Rattle.std.proofs.Common.{refl}
use Rattle.unicode.specs.GeneralCategory.{general_category}
use Rattle.unicode.specs.Rows.{value_in}
use Rattle.ucd_category.specs.GeneralCategoryRows.{general_category_rows}
use Rattle.ix_model.specs.Spelling.Characters.{is_blank, is_name_start, is_name_part}
use Rattle.ix_worked_examples.proofs.characters.blanks_and_neighbours.Goals as goal

pub returns-clause-tabulator_and_line_feed : goal.returns-clause-tabulator_and_line_feed
unfolding is_blank is_name_start is_name_part general_category value_in general_category_rows
returns-clause-tabulator_and_line_feed c = refl

pub returns-clause-carriage_return : goal.returns-clause-carriage_return
unfolding is_blank is_name_start is_name_part general_category value_in general_category_rows
returns-clause-carriage_return c = refl

pub returns-clause-space : goal.returns-clause-space
unfolding is_blank is_name_start is_name_part general_category value_in general_category_rows
returns-clause-space c = refl

pub returns-clause-next_line : goal.returns-clause-next_line
unfolding is_blank is_name_start is_name_part general_category value_in general_category_rows
returns-clause-next_line c = refl

pub returns-clause-no_break_space : goal.returns-clause-no_break_space
unfolding is_blank is_name_start is_name_part general_category value_in general_category_rows
returns-clause-no_break_space c = refl

pub returns-clause-ogham_space : goal.returns-clause-ogham_space
unfolding is_blank is_name_start is_name_part general_category value_in general_category_rows
returns-clause-ogham_space c = refl

pub returns-clause-quads : goal.returns-clause-quads
unfolding is_blank is_name_start is_name_part general_category value_in general_category_rows
returns-clause-quads c = refl

pub returns-clause-separators : goal.returns-clause-separators
unfolding is_blank is_name_start is_name_part general_category value_in general_category_rows
returns-clause-separators c = refl

pub returns-clause-narrow_space : goal.returns-clause-narrow_space
unfolding is_blank is_name_start is_name_part general_category value_in general_category_rows
returns-clause-narrow_space c = refl

pub returns-clause-ideographic_space : goal.returns-clause-ideographic_space
unfolding is_blank is_name_start is_name_part general_category value_in general_category_rows
returns-clause-ideographic_space c = refl
