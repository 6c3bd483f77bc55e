use Rattle.std.proofs.Common.{refl, [], codes, ◌≡◌, true, ◌∙◌, ap, get_or, ℕ, List}
use Rattle.unicode.specs.GeneralCategory.{general_category}
use Rattle.unicode.specs.Rows.{value_in}
use Rattle.ucd_category.specs.GeneralCategoryRows.{general_category_rows}
use Rattle.ix_model.specs.Spelling.Characters.{is_blank, is_name_start, is_name_part}
use Rattle.ix_spelling_laws.proofs.ByReading.{names, no_name}
use Rattle.ix_worked_examples.proofs.words.whole_runs.Goals as goal

pub returns-clause-letter : goal.returns-clause-letter
unfolding is_blank is_name_start is_name_part general_category value_in general_category_rows
returns-clause-letter c = names (codes "b") ([]) 98 [] refl refl

pub returns-clause-before_parenthesis : goal.returns-clause-before_parenthesis
unfolding is_blank is_name_start is_name_part general_category value_in general_category_rows
returns-clause-before_parenthesis c = names (codes "b(") (codes "(") 98 [] refl refl

pub returns-clause-hyphen : goal.returns-clause-hyphen
unfolding is_blank is_name_start is_name_part general_category value_in general_category_rows
returns-clause-hyphen c = names (codes "b.- ") (codes " ") 98 (codes ".-") refl refl

pub returns-clause-low_line : goal.returns-clause-low_line
unfolding is_blank is_name_start is_name_part general_category value_in general_category_rows
returns-clause-low_line c = names (codes "_.1.b c") (codes " c") 95 (codes ".1.b") refl refl

pub returns-clause-not_shorter : goal.returns-clause-not_shorter
unfolding is_blank is_name_start is_name_part general_category value_in general_category_rows
returns-clause-not_shorter c = no_name (codes "b.- ") (codes ".- ") (codes "b") refl

pub returns-clause-no_digit : goal.returns-clause-no_digit
unfolding is_blank is_name_start is_name_part general_category value_in general_category_rows
returns-clause-no_digit c = λ h. let p : 49 ≡ h.1.0 = ap (λ (xs : List ℕ). get_or xs 0 0) h.1.2 in let q : is_name_start 49 ≡ true = ap is_name_start p ∙ h.1.3 in cc q

pub returns-clause-nothing : goal.returns-clause-nothing
unfolding is_blank is_name_start is_name_part general_category value_in general_category_rows
returns-clause-nothing c = no_name (codes "b") (codes "b") ([]) refl
