use Rattle.std.proofs.Common.{◌≡◌, [], codes}
use Rattle.unicode.specs.GeneralCategory.{general_category}
use Rattle.unicode.specs.Rows.{value_in}
use Rattle.ucd_category.specs.GeneralCategoryRows.{general_category_rows}
use Rattle.ix_model.specs.Spelling.Characters.{is_blank, is_name_start, is_name_part}
use Rattle.ix_spelling_laws.proofs.SpacingFacts.{spacing_runs, spacing_to_after}
use Rattle.ix_worked_examples.proofs.spelling.braces.Goals as goal

pub returns-clause-empty : goal.returns-clause-empty
unfolding is_blank is_name_start is_name_part general_category value_in general_category_rows
returns-clause-empty c = spacing_to_after (codes "{}a")

pub returns-clause-lines : goal.returns-clause-lines
unfolding is_blank is_name_start is_name_part general_category value_in general_category_rows
returns-clause-lines c = spacing_to_after (codes "{a\n}{b} c")

pub returns-clause-comment_alone : goal.returns-clause-comment_alone
unfolding is_blank is_name_start is_name_part general_category value_in general_category_rows
returns-clause-comment_alone c = (spacing_to_after (codes "{}a"), λ e. cc e)

pub returns-clause-not_past_end : goal.returns-clause-not_past_end
unfolding is_blank is_name_start is_name_part general_category value_in general_category_rows
returns-clause-not_past_end c = λ h. let p : codes "b}" ≡ [] = spacing_runs (codes "{a}b}") [] h in cc p

pub returns-clause-not_open : goal.returns-clause-not_open
unfolding is_blank is_name_start is_name_part general_category value_in general_category_rows
returns-clause-not_open c = λ h. let p : codes "{{a}" ≡ [] = spacing_runs (codes "{{a}") [] h in cc p

pub returns-clause-no_letters : goal.returns-clause-no_letters
unfolding is_blank is_name_start is_name_part general_category value_in general_category_rows
returns-clause-no_letters c = λ h. let p : codes "a b" ≡ codes "b" = spacing_runs (codes "a b") (codes "b") h in cc p
