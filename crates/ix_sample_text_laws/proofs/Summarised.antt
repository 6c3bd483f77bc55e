-- What comes of the sample's text where its figures are asked for is figures.
use Rattle.std.proofs.Common.{◌≡◌, refl, ◌≤◌, ℕ, arith}
use Rattle.ix_model.specs.declared.counts.Counts.{Counts}
use Rattle.ix_model.specs.Answers.Outcome.{Outcome, no_form, grammar_too_long, grammar_not_utf8, no_grammar, too_deep, not_conforming, conforms, text_too_long, text_not_utf8, failed, refused, document, summarised}
use Rattle.ix_model.specs.Answers.Answer.{Measured}
use Rattle.ix_model.specs.Answers.Sample.{sample_text}
use Rattle.ix_sample.proofs.TextForm.{within_limit, text_utf8}
use Rattle.ix_sample_laws.specs.SampleRules.{sample_rules}
use Rattle.ix_sample_text_laws.proofs.Deriving.{sample_derived}
use Rattle.ix_sample_text_laws.proofs.Documents.{sample_document}

pub sample_summarised : (n : ℕ) → n ≤ 10000 → (outcome : Outcome) → Measured sample_rules (sample_text n) outcome → (text output : ℕ) × (counts : Counts) × (outcome ≡ summarised text counts output)
sample_summarised n small (summarised text counts output) h = (text, output, counts, refl)
sample_summarised n small (document gs state) h = absurd h
sample_summarised n small text_too_long h = absurd (omega (arith, h, within_limit n small))
sample_summarised n small (text_not_utf8 valid) h = absurd (h.1 (text_utf8 n small))
sample_summarised n small (failed offset line column) h = let x = sample_derived n small in absurd (h.1.0 x.0 x.1)
sample_summarised n small (refused code) h = absurd (sample_document n small h.1.0 h.1.1.0 code h.1.2.0)
sample_summarised n small no_form h = absurd h.1
sample_summarised n small grammar_too_long h = absurd h.1
sample_summarised n small (grammar_not_utf8 valid) h = absurd h.1
sample_summarised n small no_grammar h = absurd h.1
sample_summarised n small too_deep h = absurd h.1
sample_summarised n small (not_conforming fault) h = absurd h.1
sample_summarised n small conforms h = absurd h.1
