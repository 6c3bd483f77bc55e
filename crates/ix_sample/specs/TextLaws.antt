-- What the sample's text is: no longer than a text may be, UTF-8, and its own characters.
use Rattle.std.specs.Prelude.{◌≡◌, ℕ, ◌≤◌, length, IsUtf8}
use Rattle.ix_model.specs.Answers.Limits.{text_limit}
use Rattle.ix_model.specs.Answers.Decoding.{decoded}
use Rattle.ix_model.specs.Answers.Sample.{sample_text}

-- a text of at most 10000 lines is within the limit
abbrev pub TextIsWithinLimit : Type 0
TextIsWithinLimit = (n : ℕ) → n ≤ 10000 → length (sample_text n) ≤ text_limit

-- a text of at most 10000 lines is UTF-8
abbrev pub TextIsUtf8 : Type 0
TextIsUtf8 = (n : ℕ) → n ≤ 10000 → IsUtf8 (sample_text n)

-- its characters are its bytes
abbrev pub TextIsDecoded : Type 0
TextIsDecoded = (n : ℕ) → n ≤ 10000 → decoded (sample_text n) ≡ sample_text n
