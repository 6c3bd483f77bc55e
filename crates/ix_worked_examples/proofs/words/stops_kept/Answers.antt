use Rattle.std.proofs.Common.{refl, codes}
use Rattle.unicode.specs.GeneralCategory.{general_category}
use Rattle.unicode.specs.Rows.{value_in}
use Rattle.ucd_category.specs.GeneralCategoryRows.{general_category_rows}
use Rattle.ix_model.specs.Spelling.Characters.{is_blank, is_name_start, is_name_part}
use Rattle.ix_spelling_laws.proofs.ByReading.{names}
use Rattle.ix_worked_examples.proofs.words.stops_kept.Goals as goal

pub returns-clause-comma : goal.returns-clause-comma
unfolding is_blank is_name_start is_name_part general_category value_in general_category_rows
returns-clause-comma c = names (codes "b. ,") (codes " ,") 98 (codes ".") refl refl

pub returns-clause-semicolon : goal.returns-clause-semicolon
unfolding is_blank is_name_start is_name_part general_category value_in general_category_rows
returns-clause-semicolon c = names (codes "b. ;") (codes " ;") 98 (codes ".") refl refl

pub returns-clause-bar : goal.returns-clause-bar
unfolding is_blank is_name_start is_name_part general_category value_in general_category_rows
returns-clause-bar c = names (codes "b. |") (codes " |") 98 (codes ".") refl refl

pub returns-clause-stop : goal.returns-clause-stop
unfolding is_blank is_name_start is_name_part general_category value_in general_category_rows
returns-clause-stop c = names (codes "b. .") (codes " .") 98 (codes ".") refl refl

pub returns-clause-parenthesis : goal.returns-clause-parenthesis
unfolding is_blank is_name_start is_name_part general_category value_in general_category_rows
returns-clause-parenthesis c = names (codes "b. )") (codes " )") 98 (codes ".") refl refl

pub returns-clause-star : goal.returns-clause-star
unfolding is_blank is_name_start is_name_part general_category value_in general_category_rows
returns-clause-star c = names (codes "b. *") (codes " *") 98 (codes ".") refl refl

pub returns-clause-plus : goal.returns-clause-plus
unfolding is_blank is_name_start is_name_part general_category value_in general_category_rows
returns-clause-plus c = names (codes "b. +") (codes " +") 98 (codes ".") refl refl

pub returns-clause-question : goal.returns-clause-question
unfolding is_blank is_name_start is_name_part general_category value_in general_category_rows
returns-clause-question c = names (codes "b. ?") (codes " ?") 98 (codes ".") refl refl

pub returns-clause-colon : goal.returns-clause-colon
unfolding is_blank is_name_start is_name_part general_category value_in general_category_rows
returns-clause-colon c = names (codes "b. :") (codes " :") 98 (codes ".") refl refl

pub returns-clause-equals : goal.returns-clause-equals
unfolding is_blank is_name_start is_name_part general_category value_in general_category_rows
returns-clause-equals c = names (codes "b. =") (codes " =") 98 (codes ".") refl refl

pub returns-clause-without_space : goal.returns-clause-without_space
unfolding is_blank is_name_start is_name_part general_category value_in general_category_rows
returns-clause-without_space c = names (codes "b.,") (codes ",") 98 (codes ".") refl refl

pub returns-clause-behind_comment : goal.returns-clause-behind_comment
unfolding is_blank is_name_start is_name_part general_category value_in general_category_rows
returns-clause-behind_comment c = names (codes "b.{c},") (codes "{c},") 98 (codes ".") refl refl

pub returns-clause-all_of_three : goal.returns-clause-all_of_three
unfolding is_blank is_name_start is_name_part general_category value_in general_category_rows
returns-clause-all_of_three c = names (codes "b...:") (codes ":") 98 (codes "...") refl refl
