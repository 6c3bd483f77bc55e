use Rattle.std.proofs.Common.{◌≡◌, refl, ap, codes, arith}
use mathlib.Core.Logic.{inr}
use Rattle.std.specs.Str.{chars}
use Rattle.std.specs.Fmt.{digits}
use Rattle.unicode.specs.GeneralCategory.{general_category}
use Rattle.unicode.specs.Rows.{value_in}
use Rattle.ucd_category.specs.GeneralCategoryRows.{general_category_rows}
use Rattle.ix_model.specs.Spelling.Characters.{is_blank, is_name_start, is_name_part}
use Rattle.ix_model.specs.Documents.FailedXml.{failed_xml}
use Rattle.ix_model.specs.Answers.CommandLine.{parse}
use Rattle.ix_model.specs.Answers.Outcome.{status_of, failed}
use Rattle.ix_examples.specs.SmallAnswers.{parse_g_t, holding}
use Rattle.ix_examples.specs.SmallReadings.{two_lines}
use Rattle.ix_examples.specs.SmallRoots.{lines_way}
use Rattle.ix_spelling_laws.proofs.ByReading.{reads}
use Rattle.ix_answer_laws.proofs.OneAnswer.{answered_once}
use Rattle.ix_worked_examples.proofs.SmallAnswers.{parses_g_t}
use Rattle.ix_worked_examples.proofs.RefusedTexts.{lines_failed, lines_conform, shallow_lines}
use Rattle.ix_worked_examples.proofs.answers.failed_texts.Goals as goal

pub returns-clause-place : goal.returns-clause-place
unfolding is_blank is_name_start is_name_part general_category value_in general_category_rows chars lib.Utf8.encode failed_xml digits
returns-clause-place c = (failed 2 2 1, inr (parse (codes "g") (codes "t") 2, parses_g_t, (lines_way, refl, inr (two_lines, (((omega arith, (lines_way, (refl, refl))), reads _ _ refl, shallow_lines), lines_conform), codes "a\nc", refl, ((omega arith, (codes "a\nc", (refl, refl))), lines_failed)))), refl, refl, refl)

pub returns-clause-no_other_status : goal.returns-clause-no_other_status
returns-clause-no_other_status c = λ output message h.
    let known = returns-clause-place c in
    let same : status_of h.0 ≡ status_of known.0 = ap status_of (answered_once parse_g_t (holding lines_way (codes "a\nc")) h.0 known.0 h.1 known.1) in
    omega (arith, h.2, same, known.2)
