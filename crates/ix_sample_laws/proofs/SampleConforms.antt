-- The sample's grammar is spelled by its bytes, and conforms.
use Rattle.std.proofs.Common.{◌≡◌, refl, sym, subst, arith}
use Rattle.unicode.specs.GeneralCategory.{general_category}
use Rattle.unicode.specs.Rows.{value_in}
use Rattle.ucd_category.specs.GeneralCategoryRows.{general_category_rows}
use Rattle.std.specs.Prelude.{IsUtf8}
use Rattle.std.specs.Str.{chars}
use Rattle.ix_model.specs.Spelling.Characters.{is_blank, is_name_start, is_name_part}
use Rattle.ix_model.specs.Spelling.Spells.{Spells}
use Rattle.ix_model.specs.Spelling.Depth.{depth}
use Rattle.ix_model.specs.Grammars.Names.{HasUniqueNames}
use Rattle.ix_model.specs.Grammars.Breach.{Fault, Breach}
use Rattle.ix_model.specs.Answers.Decoding.{decoded}
use Rattle.ix_model.specs.Answers.Sample.{sample_grammar}
use Rattle.ix_model.specs.Answers.Answer.{HoldsConforming}
use Rattle.ix_model.proofs.Folds.{the_folds}
use Rattle.ix_spelling_laws.proofs.ByReading.{reads}
use Rattle.ix_conformance_laws.proofs.Judging.{unrefused}
use Rattle.ix_conformance_laws.proofs.ByTests.{no_version, unique}
use Rattle.ix_sample_laws.specs.SampleRules.{sample_rules}

-- the bytes are ASCII, so they are their characters
grammar_bytes : IsUtf8 sample_grammar
unfolding lib.Utf8.encode
grammar_bytes = (sample_grammar, (refl, refl))

grammar_characters : decoded sample_grammar ≡ sample_grammar
unfolding chars lib.Utf8.encode
grammar_characters = refl

spelled : Spells sample_grammar sample_rules
unfolding is_blank is_name_start is_name_part general_category value_in general_category_rows
spelled = reads sample_grammar sample_rules refl

flat : depth sample_rules ≡ 0
flat = simp the_folds refl

pub unique_names : HasUniqueNames sample_rules
unique_names = unique sample_rules refl

without_fault : (fault : Fault) → ¬ (Breach sample_rules fault)
without_fault = unrefused sample_rules (record {
  version = no_version sample_rules refl;
  code_points = simp the_folds (refl, tt);
  ranges = simp the_folds (omega arith, (omega arith, tt));
  classes = simp the_folds tt;
  calls = simp the_folds ((1, (_, refl, refl)), ((2, (_, refl, refl)), ((3, (_, refl, refl)), tt)));
  names = unique_names;
})

pub sample_conforms : HoldsConforming sample_grammar sample_rules
sample_conforms = (((omega arith, grammar_bytes), subst (λ c. Spells c sample_rules) (sym grammar_characters) spelled, omega (arith, flat)), without_fault)
