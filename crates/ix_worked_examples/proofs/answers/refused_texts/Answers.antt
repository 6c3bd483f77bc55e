use Rattle.std.proofs.Common.{◌≡◌, refl, ap, ◌∷◌, Some, None, codes, arith}
use mathlib.Core.Logic.{inr}
use Rattle.std.specs.Str.{chars}
use Rattle.unicode.specs.GeneralCategory.{general_category}
use Rattle.unicode.specs.Rows.{value_in}
use Rattle.ucd_category.specs.GeneralCategoryRows.{general_category_rows}
use Rattle.ix_model.specs.Spelling.Characters.{is_blank, is_name_start, is_name_part}
use Rattle.ix_model.specs.declared.grammar.Mark.TheVariants.{Attribute}
use Rattle.ix_model.specs.Documents.Dyn.{attribute_at_top, bad_name}
use Rattle.ix_model.specs.Answers.CommandLine.{parse}
use Rattle.ix_model.specs.Answers.Outcome.{status_of, refused}
use Rattle.ix_examples.specs.SmallAnswers.{parse_g_t, holding}
use Rattle.ix_examples.specs.SmallRoots.{one_root, two_roots, ordinal, ordinal_way, attribute_ways}
use Rattle.ix_spelling_laws.proofs.ByReading.{reads}
use Rattle.ix_answer_laws.proofs.OneAnswer.{answered_once}
use Rattle.ix_worked_examples.proofs.SmallAnswers.{parses_g_t}
use Rattle.ix_worked_examples.proofs.RefusedTexts.{ordinal_refused, attribute_refused, two_is_ambiguous, one_conforms, two_conforms, shallow_one, shallow_two}
use Rattle.ix_worked_examples.proofs.answers.refused_texts.Goals as goal

pub returns-clause-name : goal.returns-clause-name
unfolding is_blank is_name_start is_name_part general_category value_in general_category_rows chars lib.Utf8.encode
returns-clause-name c = (refused (bad_name ordinal), inr (parse (codes "g") (codes "t") 2, parses_g_t, (ordinal_way, refl, inr (one_root None ordinal, (((omega arith, (170 ∷ codes ": \"a\".", (refl, refl))), reads _ _ refl, shallow_one None ordinal), one_conforms None ordinal), codes "a", refl, ((omega arith, (codes "a", (refl, refl))), ordinal_refused)))), refl, refl, refl)

pub returns-clause-ambiguous : goal.returns-clause-ambiguous
returns-clause-ambiguous c = two_is_ambiguous (Some Attribute) (codes "S")

pub returns-clause-attribute : goal.returns-clause-attribute
unfolding is_blank is_name_start is_name_part general_category value_in general_category_rows chars lib.Utf8.encode
returns-clause-attribute c = (refused (attribute_at_top (codes "S")), inr (parse (codes "g") (codes "t") 2, parses_g_t, (attribute_ways, refl, inr (two_roots (Some Attribute) (codes "S"), (((omega arith, (attribute_ways, (refl, refl))), reads _ _ refl, shallow_two (Some Attribute) (codes "S")), two_conforms (Some Attribute) (codes "S")), codes "a", refl, ((omega arith, (codes "a", (refl, refl))), attribute_refused)))), refl, refl, refl)

pub returns-clause-no_other_status : goal.returns-clause-no_other_status
returns-clause-no_other_status c = λ output message h.
    let known = returns-clause-attribute c in
    let same : status_of h.0 ≡ status_of known.0 = ap status_of (answered_once parse_g_t (holding attribute_ways (codes "a")) h.0 known.0 h.1 known.1) in
    omega (arith, h.2, same, known.2)
