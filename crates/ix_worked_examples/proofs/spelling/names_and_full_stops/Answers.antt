use Rattle.std.proofs.Common.{◌≡◌, refl, ◌∙◌, ap, true, get_or, ℕ, List, [], codes}
use Rattle.unicode.specs.GeneralCategory.{general_category}
use Rattle.unicode.specs.Rows.{value_in}
use Rattle.ucd_category.specs.GeneralCategoryRows.{general_category_rows}
use Rattle.ix_model.specs.Spelling.Characters.{is_blank, is_name_start, is_name_part}
use Rattle.ix_spelling_laws.proofs.ByReading.{names, no_name}
use Rattle.ix_worked_examples.proofs.spelling.names_and_full_stops.Goals as goal

pub returns-clause-before_colon : goal.returns-clause-before_colon
unfolding is_blank is_name_start is_name_part general_category value_in general_category_rows
returns-clause-before_colon c = names (codes "b.: ") (codes ": ") 98 (codes ".") refl refl

pub returns-clause-not_given_back : goal.returns-clause-not_given_back
unfolding is_blank is_name_start is_name_part general_category value_in general_category_rows
returns-clause-not_given_back c = no_name (codes "b.: ") (codes ".: ") (codes "b") refl

pub returns-clause-before_name : goal.returns-clause-before_name
unfolding is_blank is_name_start is_name_part general_category value_in general_category_rows
returns-clause-before_name c = names (codes "b.. {c} d") (codes ". {c} d") 98 (codes ".") refl refl

pub returns-clause-not_both : goal.returns-clause-not_both
unfolding is_blank is_name_start is_name_part general_category value_in general_category_rows
returns-clause-not_both c = no_name (codes "b.. {c} d") (codes ".. {c} d") (codes "b") refl

pub returns-clause-at_the_end : goal.returns-clause-at_the_end
unfolding is_blank is_name_start is_name_part general_category value_in general_category_rows
returns-clause-at_the_end c = names (codes "b.") (codes ".") 98 [] refl refl

pub returns-clause-not_kept : goal.returns-clause-not_kept
unfolding is_blank is_name_start is_name_part general_category value_in general_category_rows
returns-clause-not_kept c = no_name (codes "b.") [] (codes "b.") refl

pub returns-clause-past_comments : goal.returns-clause-past_comments
unfolding is_blank is_name_start is_name_part general_category value_in general_category_rows
returns-clause-past_comments c = names (codes "b. {c} , d") (codes " {c} , d") 98 (codes ".") refl refl

pub returns-clause-not_part : goal.returns-clause-not_part
unfolding is_blank is_name_start is_name_part general_category value_in general_category_rows
returns-clause-not_part c = no_name (codes "bcd: ") (codes "d: ") (codes "bc") refl

pub returns-clause-no_start : goal.returns-clause-no_start
unfolding is_blank is_name_start is_name_part general_category value_in general_category_rows
returns-clause-no_start c = λ h. let p : 45 ≡ h.1.0 = ap (λ (xs : List ℕ). get_or xs 0 0) h.1.2 in let q : is_name_start 45 ≡ true = ap is_name_start p ∙ h.1.3 in cc q
