use Rattle.std.proofs.Common.{◌≡◌, ◌⊎◌, ℕ, refl, arith}
use mathlib.Core.Logic.{inl, inr}
use Rattle.ix_model.specs.Answers.CommandLine.{sample}
use Rattle.ix_worked_examples.proofs.SmallAnswers.{parses_g_t}
use Rattle.ix_answer_laws.proofs.Commands.{no_words}
use Rattle.ix_cli.specs.declared.answer.Answer.TheVariants as answer
use Rattle.ix_cli.proofs.SmallReplies.{parsing}
use Rattle.ix_cli.proofs.SmallWords.{samples_1}
use Rattle.ix_cli.proofs.laws.runs_by_their_words.Goals as goal

pub returns-clause-no_form : goal.returns-clause-no_form
returns-clause-no_form c = record {
  answered = λ x y z. tt;
  complete = λ n m z. tt;
  causes = λ x y z. tt;
  sample = λ lines workers is. absurd (no_words (sample lines workers) is);
  no_form = λ none. inl refl;
  words = λ e. no_words;
  read = λ e. absurd (omega (arith, e));
  write = λ e. absurd (omega (arith, e));
  cut_off = λ e. tt;
  nothing = λ x y z. tt;
  message = inr (answer.Words, refl, λ n. tt);
  same = refl;
  later = λ name. omega arith;
}

not_three : (n : ℕ) → n ≡ 3 → (n ≡ 2) ⊎ (n ≡ 9) → ⊥
not_three n f (inl e) = omega (arith, e, f)
not_three n f (inr e) = omega (arith, e, f)

pub returns-clause-no_grammar : goal.returns-clause-no_grammar
returns-clause-no_grammar c h = not_three 3 refl (h.no_form no_words)

pub returns-clause-form : goal.returns-clause-form
returns-clause-form c h = h.words refl parsing parses_g_t

not_refused : (n : ℕ) → n ≡ 3 → (n ≡ 0) ⊎ ((n ≡ 8) ⊎ (n ≡ 9)) → ⊥
not_refused n f (inl e) = omega (arith, e, f)
not_refused n f (inr (inl e)) = omega (arith, e, f)
not_refused n f (inr (inr e)) = omega (arith, e, f)

pub returns-clause-sample : goal.returns-clause-sample
returns-clause-sample c h = not_refused 3 refl (h.sample 1 2 samples_1)
