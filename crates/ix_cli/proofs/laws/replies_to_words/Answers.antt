use Rattle.std.proofs.Common.{◌≡◌, ◌⊎◌, refl, sym, ap, ◌∙◌, ℕ, length, arith}
use mathlib.Core.Logic.{inl, inr}
use Rattle.ix_model.specs.Answers.CommandLine.{sample}
use Rattle.ix_worked_examples.proofs.SmallAnswers.{parses_g_t}
use Rattle.ix_answer_laws.proofs.Commands.{no_words}
use Rattle.ix_cli.proofs.SmallReplies.{parsing, the_output}
use Rattle.ix_cli.proofs.SmallWords.{samples_1}
use Rattle.ix_cli.proofs.laws.replies_to_words.Goals as goal

pub returns-clause-words : goal.returns-clause-words
returns-clause-words c = record {
  form = tt;
  status = tt;
  ok = tt;
  err = no_words;
  sampled = λ lines workers is. absurd (no_words (sample lines workers) is);
}

pub returns-clause-not_words : goal.returns-clause-not_words
returns-clause-not_words c h = h.err parsing parses_g_t

pub returns-clause-no_words : goal.returns-clause-no_words
returns-clause-no_words c output h = no_words h.form.0 h.form.1

pub returns-clause-no_status : goal.returns-clause-no_status
returns-clause-no_status c v h = by_status 4 refl h.status
  where
    by_status : (n : ℕ) → n ≡ 4 → (n ≡ 0) ⊎ (n ≡ 1) → ⊥
    by_status n f (inl e) = omega (arith, e, f)
    by_status n f (inr e) = omega (arith, e, f)

pub returns-clause-shorter : goal.returns-clause-shorter
returns-clause-shorter c v e h = let f : 8 ≡ 9 = ap length (sym e ∙ h.ok.2.bytes ∙ the_output h.ok.0 h.ok.1) in omega (arith, f)

pub returns-clause-sample : goal.returns-clause-sample
returns-clause-sample c h = absurd (cc (h.sampled 1 2 samples_1))
