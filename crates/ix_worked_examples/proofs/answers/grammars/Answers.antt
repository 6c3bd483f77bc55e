use Rattle.std.proofs.Common.{refl, [], ◌∷◌, ◌++◌, codes, arith}
use mathlib.Core.Logic.{inl, inr}
use Rattle.unicode.specs.GeneralCategory.{general_category}
use Rattle.unicode.specs.Rows.{value_in}
use Rattle.ucd_category.specs.GeneralCategoryRows.{general_category_rows}
use Rattle.std.specs.Str.{chars, is_utf8}
use Rattle.std.specs.Str.Lossy.{utf8_valid_len}
use Rattle.std.specs.Fmt.{digits}
use Rattle.ix_model.specs.Spelling.Characters.{is_blank, is_name_start, is_name_part}
use Rattle.ix_model.specs.Answers.CommandLine.{parse, check}
use Rattle.ix_model.specs.Answers.Outcome.{conforms, no_grammar, not_conforming, grammar_not_utf8}
use Rattle.ix_model.specs.Grammars.Breach.{version}
use Rattle.ix_examples.specs.SmallGrammars.{quoted, only_a}
use Rattle.ix_examples.specs.SmallSpellings.{of_version}
use Rattle.ix_examples.specs.SmallAnswers.{one_way}
use Rattle.ix_spelling_laws.proofs.ByReading.{reads, reads_none}
use Rattle.ix_worked_examples.proofs.SmallAnswers.{checks_g, parses_g_t, not_utf8}
use Rattle.ix_examples.proofs.SmallConforming.{version_first, only_a_conforms, shallow_a, shallow_version, not_first_version}
use Rattle.ix_worked_examples.proofs.answers.grammars.Goals as goal

pub returns-clause-conforms : goal.returns-clause-conforms
unfolding is_blank is_name_start is_name_part general_category value_in general_category_rows chars lib.Utf8.encode
returns-clause-conforms c = (conforms, inr (check (codes "g"), checks_g, (one_way, refl, inr (only_a, (((omega arith, (one_way, (refl, refl))), reads _ _ refl, shallow_a), only_a_conforms), refl))), refl, refl, refl)

pub returns-clause-empty : goal.returns-clause-empty
unfolding is_blank is_name_start is_name_part general_category value_in general_category_rows chars lib.Utf8.encode
returns-clause-empty c = (no_grammar, inr (check (codes "g"), checks_g, ([], refl, inl ((omega arith, ([], (refl, refl))), reads_none _ refl))), refl, refl, refl)

pub returns-clause-before_text : goal.returns-clause-before_text
unfolding is_blank is_name_start is_name_part general_category value_in general_category_rows chars lib.Utf8.encode
returns-clause-before_text c = (no_grammar, inr (parse (codes "g") (codes "t") 2, parses_g_t, (codes "S: [LC].", refl, inl ((omega arith, (codes "S: [LC].", (refl, refl))), reads_none _ refl))), refl, refl, refl)

pub returns-clause-other_version : goal.returns-clause-other_version
unfolding is_blank is_name_start is_name_part general_category value_in general_category_rows chars lib.Utf8.encode
returns-clause-other_version c = (not_conforming (version (codes "2.0")), inr (check (codes "g"), checks_g, (codes "ixml version \"2.0\". S: \"a\".", refl, inl (of_version (codes "2.0") (quoted (codes "a")), ((omega arith, (codes "ixml version \"2.0\". S: \"a\".", (refl, refl))), reads _ _ refl, shallow_version), version_first (of_version (codes "2.0") (quoted (codes "a"))) (codes "2.0") refl not_first_version))), refl, refl, refl)

pub returns-clause-not_utf8 : goal.returns-clause-not_utf8
unfolding utf8_valid_len is_utf8 chars lib.Utf8.encode digits
returns-clause-not_utf8 c = (grammar_not_utf8 2, inr (check (codes "g"), checks_g, (codes "S:" ++ 255 ∷ [], refl, inl (omega arith, not_utf8 _ refl, refl))), refl, refl, refl)
