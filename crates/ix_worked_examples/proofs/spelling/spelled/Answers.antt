use Rattle.std.proofs.Common.{◌≡◌, refl, ap, ℕ, length, codes, arith}
use Rattle.std.specs.List.{flat_map}
use Rattle.ix_model.specs.declared.grammar.Grammar.{Grammar}
use Rattle.ix_model.specs.declared.grammar.Rule.{Rule}
use Rattle.unicode.specs.GeneralCategory.{general_category}
use Rattle.unicode.specs.Rows.{value_in}
use Rattle.ucd_category.specs.GeneralCategoryRows.{general_category_rows}
use Rattle.ix_model.specs.Spelling.Characters.{is_blank, is_name_start, is_name_part}
use Rattle.ix_examples.specs.SmallGrammars.{only_a, two_ways}
use Rattle.ix_examples.specs.SmallSpellings.{forms, forms_text}
use Rattle.ix_spelling_laws.proofs.ByReading.{reads}
use Rattle.ix_spelling_laws.proofs.ReadingComplete.{spelled_once}
use Rattle.ix_worked_examples.proofs.spelling.spelled.Goals as goal

pub returns-clause-plain : goal.returns-clause-plain
unfolding is_blank is_name_start is_name_part general_category value_in general_category_rows
returns-clause-plain c = reads _ _ refl

pub returns-clause-comments : goal.returns-clause-comments
unfolding is_blank is_name_start is_name_part general_category value_in general_category_rows
returns-clause-comments c = reads _ _ refl

pub returns-clause-tight : goal.returns-clause-tight
unfolding is_blank is_name_start is_name_part general_category value_in general_category_rows
returns-clause-tight c = reads _ _ refl

pub returns-clause-empty_alternative : goal.returns-clause-empty_alternative
unfolding is_blank is_name_start is_name_part general_category value_in general_category_rows
returns-clause-empty_alternative c = reads _ _ refl

pub returns-clause-full_stops : goal.returns-clause-full_stops
unfolding is_blank is_name_start is_name_part general_category value_in general_category_rows
returns-clause-full_stops c = reads _ _ refl

pub returns-clause-separator : goal.returns-clause-separator
unfolding is_blank is_name_start is_name_part general_category value_in general_category_rows
returns-clause-separator c = reads _ _ refl

pub returns-clause-version : goal.returns-clause-version
unfolding is_blank is_name_start is_name_part general_category value_in general_category_rows
returns-clause-version c = reads _ _ refl

pub returns-clause-all_forms : goal.returns-clause-all_forms
unfolding is_blank is_name_start is_name_part general_category value_in general_category_rows
returns-clause-all_forms c = reads forms_text forms refl

abbrev alt_count : Grammar → ℕ
alt_count g = length (flat_map (λ (rule : Rule). rule.alts) g.rules)

pub returns-clause-another : goal.returns-clause-another
unfolding is_blank is_name_start is_name_part general_category value_in general_category_rows
returns-clause-another c = λ h.
    let p : 1 ≡ 2 = ap alt_count (spelled_once (codes "S: \"a\".") only_a two_ways (reads _ _ refl) h) in
    omega (arith, p)
