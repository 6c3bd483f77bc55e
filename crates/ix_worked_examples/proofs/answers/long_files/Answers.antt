use Rattle.std.proofs.Common.{refl, codes, arith}
use mathlib.Core.Logic.{inl, inr}
use Rattle.std.specs.Str.{chars}
use Rattle.unicode.specs.GeneralCategory.{general_category}
use Rattle.unicode.specs.Rows.{value_in}
use Rattle.ucd_category.specs.GeneralCategoryRows.{general_category_rows}
use Rattle.ix_model.specs.Spelling.Characters.{is_blank, is_name_start, is_name_part}
use Rattle.ix_model.specs.Answers.CommandLine.{parse, check}
use Rattle.ix_model.specs.Answers.Outcome.{grammar_too_long, text_too_long}
use Rattle.ix_examples.specs.SmallGrammars.{only_a}
use Rattle.ix_examples.specs.SmallAnswers.{one_way}
use Rattle.ix_examples.proofs.SmallConforming.{only_a_conforms, shallow_a}
use Rattle.ix_spelling_laws.proofs.ByReading.{reads}
use Rattle.ix_worked_examples.proofs.SmallAnswers.{checks_g, parses_g_t}
use Rattle.ix_worked_examples.proofs.answers.long_files.Goals as goal

pub returns-clause-grammar : goal.returns-clause-grammar
returns-clause-grammar c = λ bytes e. (grammar_too_long, inr (check (codes "g"), checks_g, (bytes, refl, inl (omega (arith, e)))), refl, refl, refl)

pub returns-clause-before_text : goal.returns-clause-before_text
returns-clause-before_text c = λ bytes e. (grammar_too_long, inr (parse (codes "g") (codes "t") 2, parses_g_t, (bytes, refl, inl (omega (arith, e)))), refl, refl, refl)

pub returns-clause-text : goal.returns-clause-text
unfolding is_blank is_name_start is_name_part general_category value_in general_category_rows chars lib.Utf8.encode
returns-clause-text c = λ bytes e. (text_too_long, inr (parse (codes "g") (codes "t") 2, parses_g_t, (one_way, refl, inr (only_a, (((omega arith, (one_way, (refl, refl))), reads _ _ refl, shallow_a), only_a_conforms), bytes, refl, omega (arith, e)))), refl, refl, refl)
