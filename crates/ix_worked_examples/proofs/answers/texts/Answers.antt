use Rattle.std.proofs.Common.{◌≡◌, refl, ap, [], ◌∷◌, codes, arith}
use mathlib.Core.Logic.{inr}
use Rattle.unicode.specs.GeneralCategory.{general_category}
use Rattle.unicode.specs.Rows.{value_in}
use Rattle.ucd_category.specs.GeneralCategoryRows.{general_category_rows}
use Rattle.std.specs.Str.{chars, is_utf8}
use Rattle.std.specs.Str.Lossy.{utf8_valid_len}
use Rattle.std.specs.Fmt.{digits}
use Rattle.ix_model.specs.Spelling.Characters.{is_blank, is_name_start, is_name_part}
use Rattle.ix_model.specs.declared.state.State.TheVariants.{Single, Ambiguous}
use Rattle.ix_model.specs.Documents.FailedXml.{failed_xml}
use Rattle.ix_model.specs.Answers.CommandLine.{parse}
use Rattle.ix_model.specs.Answers.Outcome.{status_of, failed, document, text_not_utf8}
use Rattle.ix_examples.specs.SmallGrammars.{only_a, two_ways}
use Rattle.ix_examples.specs.SmallAnswers.{parse_g_t, holding, one_way, both_ways}
use Rattle.ix_spelling_laws.proofs.ByReading.{reads}
use Rattle.ix_worked_examples.proofs.SmallAnswers.{parses_g_t, a_parsed, a_parsed_twice, ab_failed, not_utf8}
use Rattle.ix_examples.proofs.SmallConforming.{only_a_conforms, two_ways_conforms, shallow_a, shallow_both}
use Rattle.ix_answer_laws.proofs.OneAnswer.{answered_once}
use Rattle.ix_worked_examples.proofs.answers.texts.Goals as goal

pub returns-clause-single : goal.returns-clause-single
unfolding is_blank is_name_start is_name_part general_category value_in general_category_rows chars lib.Utf8.encode
returns-clause-single c = (document _ Single, inr (parse (codes "g") (codes "t") 2, parses_g_t, (one_way, refl, inr (only_a, (((omega arith, (one_way, (refl, refl))), reads _ _ refl, shallow_a), only_a_conforms), codes "a", refl, ((omega arith, (codes "a", (refl, refl))), a_parsed)))), refl, refl, refl)

pub returns-clause-behind_mark : goal.returns-clause-behind_mark
unfolding is_blank is_name_start is_name_part general_category value_in general_category_rows chars lib.Utf8.encode
returns-clause-behind_mark c = (document _ Single, inr (parse (codes "g") (codes "t") 2, parses_g_t, (one_way, refl, inr (only_a, (((omega arith, (one_way, (refl, refl))), reads _ _ refl, shallow_a), only_a_conforms), (239 ∷ 187 ∷ 191 ∷ codes "a"), refl, ((omega arith, (0xFEFF ∷ codes "a", (refl, refl))), a_parsed)))), refl, refl, refl)

pub returns-clause-ambiguous : goal.returns-clause-ambiguous
unfolding is_blank is_name_start is_name_part general_category value_in general_category_rows chars lib.Utf8.encode
returns-clause-ambiguous c = (document _ Ambiguous, inr (parse (codes "g") (codes "t") 2, parses_g_t, (both_ways, refl, inr (two_ways, (((omega arith, (both_ways, (refl, refl))), reads _ _ refl, shallow_both), two_ways_conforms), codes "a", refl, ((omega arith, (codes "a", (refl, refl))), a_parsed_twice)))), refl, refl, refl)

pub returns-clause-failed : goal.returns-clause-failed
unfolding is_blank is_name_start is_name_part general_category value_in general_category_rows chars lib.Utf8.encode failed_xml digits
returns-clause-failed c = (failed 1 1 2, inr (parse (codes "g") (codes "t") 2, parses_g_t, (one_way, refl, inr (only_a, (((omega arith, (one_way, (refl, refl))), reads _ _ refl, shallow_a), only_a_conforms), codes "ab", refl, ((omega arith, (codes "ab", (refl, refl))), ab_failed)))), refl, refl, refl)

pub returns-clause-not_utf8 : goal.returns-clause-not_utf8
unfolding is_blank is_name_start is_name_part general_category value_in general_category_rows chars lib.Utf8.encode utf8_valid_len is_utf8 digits
returns-clause-not_utf8 c = (text_not_utf8 1, inr (parse (codes "g") (codes "t") 2, parses_g_t, (one_way, refl, inr (only_a, (((omega arith, (one_way, (refl, refl))), reads _ _ refl, shallow_a), only_a_conforms), (97 ∷ 195 ∷ []), refl, (omega arith, not_utf8 _ refl, refl)))), refl, refl, refl)

pub returns-clause-no_other_status : goal.returns-clause-no_other_status
returns-clause-no_other_status c = λ output message h.
    let known = returns-clause-failed c in
    let same : status_of h.0 ≡ status_of known.0 = ap status_of (answered_once parse_g_t (holding one_way (codes "ab")) h.0 known.0 h.1 known.1) in
    omega (arith, h.2, same, known.2)
