use Rattle.std.proofs.Common.{refl, [], codes}
use Rattle.unicode.specs.GeneralCategory.{general_category}
use Rattle.unicode.specs.Rows.{value_in}
use Rattle.ucd_category.specs.GeneralCategoryRows.{general_category_rows}
use Rattle.ix_model.specs.Spelling.Characters.{is_blank, is_name_start, is_name_part}
use Rattle.ix_spelling_laws.proofs.ByReading.{names, no_name}
use Rattle.ix_worked_examples.proofs.words.stops_given_back.Goals as goal

pub returns-clause-opening_parenthesis : goal.returns-clause-opening_parenthesis
unfolding is_blank is_name_start is_name_part general_category value_in general_category_rows
returns-clause-opening_parenthesis c = names (codes "b. (") (codes ". (") 98 [] refl refl

pub returns-clause-bracket : goal.returns-clause-bracket
unfolding is_blank is_name_start is_name_part general_category value_in general_category_rows
returns-clause-bracket c = names (codes "b. [") (codes ". [") 98 [] refl refl

pub returns-clause-closing_bracket : goal.returns-clause-closing_bracket
unfolding is_blank is_name_start is_name_part general_category value_in general_category_rows
returns-clause-closing_bracket c = names (codes "b. ]") (codes ". ]") 98 [] refl refl

pub returns-clause-tilde : goal.returns-clause-tilde
unfolding is_blank is_name_start is_name_part general_category value_in general_category_rows
returns-clause-tilde c = names (codes "b. ~") (codes ". ~") 98 [] refl refl

pub returns-clause-at_sign : goal.returns-clause-at_sign
unfolding is_blank is_name_start is_name_part general_category value_in general_category_rows
returns-clause-at_sign c = names (codes "b. @") (codes ". @") 98 [] refl refl

pub returns-clause-caret : goal.returns-clause-caret
unfolding is_blank is_name_start is_name_part general_category value_in general_category_rows
returns-clause-caret c = names (codes "b. ^") (codes ". ^") 98 [] refl refl

pub returns-clause-hyphen : goal.returns-clause-hyphen
unfolding is_blank is_name_start is_name_part general_category value_in general_category_rows
returns-clause-hyphen c = names (codes "b. -") (codes ". -") 98 [] refl refl

pub returns-clause-number_sign : goal.returns-clause-number_sign
unfolding is_blank is_name_start is_name_part general_category value_in general_category_rows
returns-clause-number_sign c = names (codes "b. #") (codes ". #") 98 [] refl refl

pub returns-clause-quote : goal.returns-clause-quote
unfolding is_blank is_name_start is_name_part general_category value_in general_category_rows
returns-clause-quote c = names (codes "b. \"") (codes ". \"") 98 [] refl refl

pub returns-clause-apostrophe : goal.returns-clause-apostrophe
unfolding is_blank is_name_start is_name_part general_category value_in general_category_rows
returns-clause-apostrophe c = names (codes "b. '") (codes ". '") 98 [] refl refl

pub returns-clause-letter : goal.returns-clause-letter
unfolding is_blank is_name_start is_name_part general_category value_in general_category_rows
returns-clause-letter c = names (codes "b. c") (codes ". c") 98 [] refl refl

pub returns-clause-digit : goal.returns-clause-digit
unfolding is_blank is_name_start is_name_part general_category value_in general_category_rows
returns-clause-digit c = names (codes "b. 1") (codes ". 1") 98 [] refl refl

pub returns-clause-low_line : goal.returns-clause-low_line
unfolding is_blank is_name_start is_name_part general_category value_in general_category_rows
returns-clause-low_line c = names (codes "b. _") (codes ". _") 98 [] refl refl

pub returns-clause-less : goal.returns-clause-less
unfolding is_blank is_name_start is_name_part general_category value_in general_category_rows
returns-clause-less c = names (codes "b. <") (codes ". <") 98 [] refl refl

pub returns-clause-greater : goal.returns-clause-greater
unfolding is_blank is_name_start is_name_part general_category value_in general_category_rows
returns-clause-greater c = names (codes "b. >") (codes ". >") 98 [] refl refl

pub returns-clause-exclamation : goal.returns-clause-exclamation
unfolding is_blank is_name_start is_name_part general_category value_in general_category_rows
returns-clause-exclamation c = names (codes "b. !") (codes ". !") 98 [] refl refl

pub returns-clause-slash : goal.returns-clause-slash
unfolding is_blank is_name_start is_name_part general_category value_in general_category_rows
returns-clause-slash c = names (codes "b. /") (codes ". /") 98 [] refl refl

pub returns-clause-ampersand : goal.returns-clause-ampersand
unfolding is_blank is_name_start is_name_part general_category value_in general_category_rows
returns-clause-ampersand c = names (codes "b. &") (codes ". &") 98 [] refl refl

pub returns-clause-closing_brace : goal.returns-clause-closing_brace
unfolding is_blank is_name_start is_name_part general_category value_in general_category_rows
returns-clause-closing_brace c = names (codes "b. }") (codes ". }") 98 [] refl refl

pub returns-clause-accent : goal.returns-clause-accent
unfolding is_blank is_name_start is_name_part general_category value_in general_category_rows
returns-clause-accent c = names (codes "b. é") (codes ". é") 98 [] refl refl

pub returns-clause-end : goal.returns-clause-end
unfolding is_blank is_name_start is_name_part general_category value_in general_category_rows
returns-clause-end c = names (codes "b. ") (codes ". ") 98 [] refl refl

pub returns-clause-open_comment : goal.returns-clause-open_comment
unfolding is_blank is_name_start is_name_part general_category value_in general_category_rows
returns-clause-open_comment c = names (codes "b.{c") (codes ".{c") 98 [] refl refl

pub returns-clause-not_kept : goal.returns-clause-not_kept
unfolding is_blank is_name_start is_name_part general_category value_in general_category_rows
returns-clause-not_kept c = no_name (codes "b.{c") (codes "{c") (codes "b.") refl

pub returns-clause-one_of_three : goal.returns-clause-one_of_three
unfolding is_blank is_name_start is_name_part general_category value_in general_category_rows
returns-clause-one_of_three c = names (codes "b...") (codes ".") 98 (codes "..") refl refl

pub returns-clause-not_two_of_three : goal.returns-clause-not_two_of_three
unfolding is_blank is_name_start is_name_part general_category value_in general_category_rows
returns-clause-not_two_of_three c = no_name (codes "b...") (codes "..") (codes "b.") refl

pub returns-clause-not_all_of_three : goal.returns-clause-not_all_of_three
unfolding is_blank is_name_start is_name_part general_category value_in general_category_rows
returns-clause-not_all_of_three c = no_name (codes "b...") ([]) (codes "b...") refl
