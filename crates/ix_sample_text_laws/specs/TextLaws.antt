-- What comes of the sample's text under the sample's grammar.
use Rattle.std.specs.Prelude.{◌≡◌, ℕ, ◌≤◌}
use Rattle.ix_model.specs.declared.counts.Counts.{Counts}
use Rattle.ix_model.specs.Derivations.Trees.{Tree}
use Rattle.ix_model.specs.Derivations.Derives.{IsDerivation}
use Rattle.ix_model.specs.Documents.Gives.{gives_root}
use Rattle.ix_model.specs.Documents.Dyn.{HasNoRefusal}
use Rattle.ix_model.specs.Answers.Decoding.{decoded}
use Rattle.ix_model.specs.Answers.Outcome.{Outcome, summarised}
use Rattle.ix_model.specs.Answers.Answer.{Measured}
use Rattle.ix_model.specs.Answers.Sample.{sample_text}
use Rattle.ix_sample_laws.specs.SampleRules.{sample_rules}

-- a text of at most 10000 lines has a derivation
abbrev pub SampleIsDerived : Type 0
SampleIsDerived = (n : ℕ) → n ≤ 10000 → (d : Tree) × IsDerivation sample_rules (decoded (sample_text n)) d

-- each of its derivations gives a document
abbrev pub SampleGivesDocument : Type 0
SampleGivesDocument = (n : ℕ) → n ≤ 10000 → (d : Tree) → IsDerivation sample_rules (decoded (sample_text n)) d → HasNoRefusal (gives_root (decoded (sample_text n)) sample_rules d)

-- so what comes of it where its figures are asked for are figures
abbrev pub SampleIsSummarised : Type 0
SampleIsSummarised = (n : ℕ) → n ≤ 10000 → (outcome : Outcome) → Measured sample_rules (sample_text n) outcome →
    (text output : ℕ) × (counts : Counts) × (outcome ≡ summarised text counts output)
