use Rattle.std.proofs.Common.{refl, codes, arith}
use mathlib.Core.Logic.{inl, inr}
use Rattle.std.specs.Str.{chars}
use Rattle.unicode.specs.GeneralCategory.{general_category}
use Rattle.unicode.specs.Rows.{value_in}
use Rattle.ucd_category.specs.GeneralCategoryRows.{general_category_rows}
use Rattle.ix_model.specs.Spelling.Characters.{is_blank, is_name_start, is_name_part}
use Rattle.ix_model.specs.Answers.CommandLine.{check}
use Rattle.ix_model.specs.Answers.Outcome.{conforms, too_deep}
use Rattle.ix_examples.specs.SmallSpellings.{pairs, pairs_text}
use Rattle.ix_spelling_laws.proofs.ByReading.{reads}
use Rattle.ix_worked_examples.proofs.SmallAnswers.{checks_g}
use Rattle.ix_worked_examples.proofs.Pairs.{pairs_deep, pairs_conform}
use Rattle.ix_worked_examples.proofs.answers.deep_grammars.Goals as goal

pub returns-clause-hundred : goal.returns-clause-hundred
unfolding is_blank is_name_start is_name_part general_category value_in general_category_rows chars lib.Utf8.encode
returns-clause-hundred c = (conforms, inr (check (codes "g"), checks_g, (pairs_text 100, refl, inr (pairs 100, (((omega arith, (pairs_text 100, (refl, refl))), reads (pairs_text 100) (pairs 100) refl, omega (arith, pairs_deep 100)), pairs_conform 100), refl))), refl, refl, refl)

pub returns-clause-one_more : goal.returns-clause-one_more
unfolding is_blank is_name_start is_name_part general_category value_in general_category_rows chars lib.Utf8.encode
returns-clause-one_more c = (too_deep, inr (check (codes "g"), checks_g, (pairs_text 101, refl, inl ((omega arith, (pairs_text 101, (refl, refl))), pairs 101, reads (pairs_text 101) (pairs 101) refl, omega (arith, pairs_deep 101)))), refl, refl, refl)
