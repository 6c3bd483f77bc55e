use Rattle.std.proofs.Common.{◌≡◌, refl, arith}
use mathlib.Core.Logic.{inl}
use Rattle.ix_worked_examples.proofs.SmallAnswers.{parses_g_t}
use Rattle.ix_cli.proofs.Caused.{reply_caused}
use Rattle.ix_cli.proofs.SmallReplies.{parsing, answered, written_whole, not_shorter, not_nothing, not_another_front, failure_caused}
use Rattle.ix_cli.proofs.laws.runs_with_a_document.Goals as goal

pub returns-clause-document : goal.returns-clause-document
returns-clause-document c = record {
  answered = λ x y z. written_whole;
  complete = λ n m z. written_whole;
  causes = λ x y z. reply_caused _ _ _ answered;
  sample = λ lines workers is. inl refl;
  no_form = λ none. absurd (none parsing parses_g_t);
  words = λ e. absurd (omega (arith, e));
  read = λ e. absurd (omega (arith, e));
  write = λ e. absurd (omega (arith, e));
  cut_off = λ e. absurd (omega (arith, e));
  nothing = λ x y z. absurd (x refl);
  message = inl (inl refl, λ n. refl);
  same = refl;
  later = λ name. omega arith;
}

pub returns-clause-shorter : goal.returns-clause-shorter
returns-clause-shorter c h = not_shorter (h.answered (λ e. omega (arith, e)) (λ e. omega (arith, e)) (λ e. omega (arith, e)))

pub returns-clause-refused : goal.returns-clause-refused
returns-clause-refused c h = not_nothing (h.answered (λ e. omega (arith, e)) (λ e. omega (arith, e)) (λ e. omega (arith, e)))

pub returns-clause-another_front : goal.returns-clause-another_front
returns-clause-another_front c h = not_another_front (h.cut_off refl)

pub returns-clause-failed : goal.returns-clause-failed
returns-clause-failed c h =
    let caused = h.causes (λ e. omega (arith, e)) (λ e. omega (arith, e)) (λ e. omega (arith, e)) in
    let e : 0 ≡ 1 = caused.no_derivation.1 (failure_caused.no_derivation.0 refl) in
    omega (arith, e)
