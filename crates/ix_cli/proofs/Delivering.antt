-- What is delivered for words is a run of them.
use Rattle.std.proofs.Common.{◌≡◌, ◌⊎◌, ◌≤◌, refl, sym, subst, ℕ, List, Option, None, Some, Result, Ok, Err, arith}
use Rattle.std.specs.Io.KnownBytes.{Keeps}
use mathlib.Core.Logic.{inl, inr}
use Rattle.ix_cli.specs.declared.answer.Answer.{Answer}
use Rattle.ix_cli.specs.declared.answer.Answer.TheVariants as answer
use Rattle.ix_cli.specs.declared.output.Output.{Output}
use Rattle.ix_cli.specs.Answered.{IsAnswered}
use Rattle.ix_cli.specs.Delivered.{IsDelivered}
use Rattle.ix_cli.specs.Refused.{IsRefused}
use Rattle.ix_cli.specs.Replied.{IsReplied}
use Rattle.ix_cli.specs.Runs.{Outside, IsRun}
use Rattle.ix_cli.specs.Says.{Says}
use Rattle.ix_cli.proofs.Refusing.{refused_answered, refused_complete, formless_status, two_is_formless, wanting_status, refusal_said, not_eight, named_unread}
use Rattle.ix_cli.proofs.Writing.{answered_caused, written_answered, written_sample, written_status, written_rose, written_front, written_nothing, written_said}

-- what has not changed was kept
keeps_same : (old new : Option (List ℕ)) → new ≡ old → Keeps old new
keeps_same None new e = tt
keeps_same (Some xs) new e = subst (Keeps (Some xs)) (sym e) refl

module _ (words : List (List ℕ)) (old new : Outside) (same : new.told ≡ old.told) (later : (name : List ℕ) → old.unread name ≤ new.unread name) (status : ℕ) where
  abbrev Says_here : List ℕ → Type 0
  Says_here = Says old.said new.said old.unsaid new.unsaid

  abbrev Delivers : Result Output Answer → Type 0
  Delivers r = IsDelivered old.written new.written old.unwritten new.unwritten old.said new.said old.unsaid new.unsaid r status

  abbrev Replies : Result Output Answer → Type 0
  Replies = IsReplied words old.told old.unread new.unread

  written_run : (output : Output) → Replies (Ok output) → Delivers (Ok output) → IsRun words old new status
  written_run output r w =
      let whole = written_answered words old.written new.written old.said new.said old.unwritten new.unwritten old.unsaid new.unsaid output old.told status r.ok w in
      let rose = written_rose old.written new.written old.said new.said old.unwritten new.unwritten old.unsaid new.unsaid output status w r.status in
      let range = written_status old.written new.written old.said new.said old.unwritten new.unwritten old.unsaid new.unsaid output status w r.status in
      record {
        answered = λ a b c. whole b c;
        complete = λ n m c. whole (λ e. m (rose e)) c;
        causes = λ a b c. answered_caused words old.told old.written new.written status Says_here (whole b c);
        sample = λ lines workers is. written_sample old.written new.written old.said new.said old.unwritten new.unwritten old.unsaid new.unsaid output status w (r.sampled lines workers is);
        no_form = λ none. absurd (none r.form.0 r.form.1);
        words = λ e. absurd (no_refusal range 2 (omega arith) (omega arith) e);
        read = λ e. absurd (no_refusal range 7 (omega arith) (omega arith) e);
        write = rose;
        cut_off = written_front old.written new.written old.said new.said old.unwritten new.unwritten old.unsaid new.unsaid output status w r.status words old.told r.ok;
        nothing = written_nothing old.written new.written old.said new.said old.unwritten new.unwritten old.unsaid new.unsaid output status w r.status;
        message = written_said old.written new.written old.said new.said old.unwritten new.unwritten old.unsaid new.unsaid output status w r.status;
        same = same;
        later = later;
      }
    where
      no_refusal : (status ≤ 1) ⊎ (8 ≤ status) → (n : ℕ) → 2 ≤ n → n ≤ 7 → status ≡ n → ⊥
      no_refusal (inl l) n a b e = omega (arith, l, a, e)
      no_refusal (inr l) n a b e = omega (arith, l, b, e)

  refused_run : (a : Answer) → Replies (Err a) → Delivers (Err a) → IsRun words old new status
  refused_run a r (e, told, read) =
      let answers : IsAnswered words old.told old.written old.written status Says_here → IsAnswered words old.told old.written new.written status Says_here =
      subst (λ w. IsAnswered words old.told old.written w status Says_here) (sym e) in
      let answered = refused_answered words old.written old.said new.said old.unsaid new.unsaid old.told old.unread new.unread a status r.err told in
      record {
        answered = λ x y z. answers (answered x y z);
        complete = λ n m c. answers (refused_complete words old.written old.said new.said old.unsaid new.unsaid old.told old.unread new.unread a status r.err told n c);
        causes = λ x y z. answered_caused words old.told old.written old.written status Says_here (answered x y z);
        sample = λ lines workers is. inr (inr (wanting_status words old.written old.said new.said old.unsaid new.unsaid a status (r.sampled lines workers is) told));
        no_form = formless_status words old.written old.said new.said old.unsaid new.unsaid old.told old.unread new.unread a status r.err told;
        words = two_is_formless words old.written old.said new.said old.unsaid new.unsaid old.told old.unread new.unread a status r.err told;
        read = λ seven.
            let named = read seven in
            let refused : IsRefused words old.told old.unread new.unread (answer.Read named.0) = subst (IsRefused words old.told old.unread new.unread) named.1 r.err in
            (_, named_unread words old.written old.said new.said old.unsaid new.unsaid old.told old.unread new.unread named.0 refused, named.2);
        write = λ eight. absurd (eighth eight);
        cut_off = λ eight. absurd (eighth eight);
        nothing = λ x y z. keeps_same old.written new.written e;
        message = refusal_said old.said new.said old.unsaid new.unsaid a status told;
        same = same;
        later = later;
      }
    where
      eighth : status ≡ 8 → ⊥
      eighth = not_eight words old.written old.said new.said old.unsaid new.unsaid old.told old.unread new.unread a status r.err told

  pub run_is : (r : Result Output Answer) → Replies r → Delivers r → IsRun words old new status
  run_is (Ok output) = written_run output
  run_is (Err a) = refused_run a
