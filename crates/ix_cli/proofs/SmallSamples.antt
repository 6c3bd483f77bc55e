-- The worked examples of `sample`, as far as they need no derivation of its text.
use Rattle.std.proofs.Common.{◌≡◌, ◌<◌, refl, ◌∙◌, subst, ℕ, List, length, codes, arith}
use Rattle.std.specs.Prelude.{IsUtf8}
use Rattle.std.specs.Fmt.{digits}
use mathlib.Core.Logic.{inl, inr}
use lib.Utf8.{encode}
use Rattle.ix_model.specs.declared.grammar.Grammar.{Grammar}
use Rattle.ix_model.specs.Answers.Answer.{HoldsConforming, Measured, CommandAnswered}
use Rattle.ix_model.specs.Answers.CommandLine.{sample}
use Rattle.ix_model.specs.Answers.Limits.{text_limit}
use Rattle.ix_model.specs.Answers.Outcome.{Outcome}
use Rattle.ix_model.specs.Answers.Sample.{sample_grammar, sample_text}
use Rattle.ix_edge.specs.Told.{Told, held}
use Rattle.ix_cli.specs.Causes.{IsUndecodable, Parses, OfGrammar, OfText, IsNotUtf8}
use Rattle.ix_cli.specs.Examples.{sample_1}
use Rattle.ix_cli.specs.Named.{ReadsGrammar}
use Rattle.ix_cli.specs.Table.{IsReply}
use Rattle.ix_cli.proofs.SmallWords.{samples_1, of_sample}

pub one_line : sample_text 1 ≡ codes "1:ab\n"
unfolding digits
one_line = refl

pub length_of_two_lines : length (sample_text 2) ≡ 10
unfolding digits
length_of_two_lines = refl

line_is_utf8 : IsUtf8 (codes "1:ab\n")
unfolding encode
line_is_utf8 = (codes "1:ab\n", (refl, refl))

-- each answer is that of its text
pub measured : (files : Told) (o : Outcome) → IsReply sample_1 files o → (g : Grammar) × HoldsConforming sample_grammar g × Measured g (sample_text 1) o
measured files o (inl h) = absurd (h.0 (sample 1 2) samples_1)
measured files o (inr (command, is, h)) = of_sample (λ c. CommandAnswered (held files) c o) command is h

module _ (files : Told) where
  -- nothing is true of a grammar file
  pub of_no_grammar : (P : List ℕ → Type 0) → ¬ (OfGrammar sample_1 files P)
  of_no_grammar P (command, is, name, bytes, reads, e, p) = of_sample (λ c. ReadsGrammar c name) command is reads

  -- the text is one line
  text_is : (P : Grammar → List ℕ → Type 0) → OfText sample_1 files P → (g : Grammar) × P g (codes "1:ab\n")
  text_is P (command, is, g, s, parses, p) =
      let same : s ≡ sample_text 1 = (of_sample (λ c. Parses files c g s) command is parses).1 in
      (g, subst (P g) (same ∙ one_line) p)

  pub never_undecodable : ¬ (IsNotUtf8 sample_1 files)
  never_undecodable (inl h) = of_no_grammar _ h
  never_undecodable (inr h) = (text_is (λ g s. IsUndecodable text_limit s) h).1.1 line_is_utf8

  pub never_too_long : ¬ (OfText sample_1 files (λ g s. text_limit < length s))
  never_too_long h = let less : 16777216 < 5 = (text_is (λ g s. text_limit < length s) h).1 in omega (arith, less)
