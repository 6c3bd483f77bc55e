use Rattle.std.proofs.Common.{◌≡◌, [], codes}
use Rattle.unicode.specs.GeneralCategory.{general_category}
use Rattle.unicode.specs.Rows.{value_in}
use Rattle.ucd_category.specs.GeneralCategoryRows.{general_category_rows}
use Rattle.ix_model.specs.Spelling.Characters.{is_blank, is_name_start, is_name_part}
use Rattle.ix_spelling_laws.proofs.SpacingFacts.{spacing_runs, spacing_to_after, after_is_all, all_is_after}
use Rattle.ix_worked_examples.proofs.spelling.comments_within_comments.Goals as goal

pub returns-clause-whole : goal.returns-clause-whole
unfolding is_blank is_name_start is_name_part general_category value_in general_category_rows
returns-clause-whole c = spacing_to_after (codes "{a {b} c} S")

pub returns-clause-some : goal.returns-clause-some
unfolding is_blank is_name_start is_name_part general_category value_in general_category_rows
returns-clause-some c = (spacing_to_after (codes "{a {b} c}S"), λ e. cc e)

pub returns-clause-unfinished : goal.returns-clause-unfinished
unfolding is_blank is_name_start is_name_part general_category value_in general_category_rows
returns-clause-unfinished c = λ h. let p : codes "{a {b} c" ≡ [] = spacing_runs (codes "{a {b} c") [] h in cc p

pub returns-clause-all : goal.returns-clause-all
unfolding is_blank is_name_start is_name_part general_category value_in general_category_rows
returns-clause-all c = after_is_all (codes " {a}\tS")

pub returns-clause-not_all : goal.returns-clause-not_all
unfolding is_blank is_name_start is_name_part general_category value_in general_category_rows
returns-clause-not_all c = λ h. let p : codes " S" ≡ codes "S" = all_is_after (codes " {a} S") (codes " S") h in cc p
