-- From what was prepared for words, and what came of its text, to the table of answers.
use Rattle.std.proofs.Common.{◌≡◌, ◌⊎◌, ◌≤◌, sym, ◌∙◌, subst, ℕ, List, [], ◌∷◌, Option, None, Some, Result, Ok, Err, IfSome, arith}
use Rattle.std.specs.Result.{IsErrAnd}
use mathlib.Core.Logic.{inl}
use Rattle.ix_model.specs.Answers.CommandLine.{Command, parse, check, sample, IsWorkers, IsCommand}
use Rattle.ix_model.specs.Answers.Sample.{sample_text}
use Rattle.ix_edge.specs.Told.{Told}
use Rattle.ix_engine.specs.declared.outcome.ParseFault.{ParseFault}
use Rattle.ix_engine.specs.Parsed.{IsFault}
use Rattle.ix_answer_laws.proofs.Commands.{command_is_one}
use Rattle.ix_cli.specs.declared.answer.Answer.{Answer}
use Rattle.ix_cli.specs.declared.answer.Answer.TheVariants as answer
use Rattle.ix_cli.specs.declared.output.Output.{Output}
use Rattle.ix_cli.specs.declared.task.Prepared.TheVariants as prepared
use Rattle.ix_cli.specs.declared.task.Task.{Task}
use Rattle.ix_cli.specs.Means.{of_fault}
use Rattle.ix_cli.specs.Prepared.{IsPreparedFor}
use Rattle.ix_cli.specs.Refused.{IsRefused}
use Rattle.ix_cli.specs.Replied.{IsReplied}
use Rattle.ix_cli.specs.Shown.{ShowsText, ShowsFigures, ShowsWanted, ShowsCommand}
use Rattle.ix_cli.proofs.Replies.{text_refused, output_shown, check_shown, sample_parsed, sample_done, sample_shown, refused_for, command_shown, told_of_all}

-- ---- the numbers of a command

workers_are : (values : List (List ℕ)) (n : ℕ) → IsWorkers values n → (1 ≤ n) × (n ≤ 64)
workers_are [] n e = (omega (arith, e), omega (arith, e))
workers_are (val ∷ []) n (f, l, e, a, b) = (a, b)
workers_are (val ∷ other ∷ values) n h = absurd h

pub parse_workers : (words : List (List ℕ)) (grammar text : List ℕ) (workers : ℕ) → IsCommand words (parse grammar text workers) → (1 ≤ workers) × (workers ≤ 64)
parse_workers words grammar text workers (word, others, operands, values, e, r, (f, g, w)) = workers_are values workers w

pub sample_workers : (words : List (List ℕ)) (lines workers : ℕ) → IsCommand words (sample lines workers) → (1 ≤ workers) × (workers ≤ 64)
sample_workers words lines workers (word, others, operands, values, e, r, (f, number, g, count, w)) = workers_are values workers w

pub sample_lines : (words : List (List ℕ)) (lines workers : ℕ) → IsCommand words (sample lines workers) → (1 ≤ lines) × (lines ≤ 10000)
sample_lines words lines workers (word, others, operands, values, e, r, (f, number, g, (i, l, v, a, b), w)) = (a, b)

-- ---- the table's answer

module _ (words : List (List ℕ)) (told : Option Told) (old new : List ℕ → ℕ) where
  -- where nothing was prepared
  pub unprepared_replied : (r : Result Output Answer) (a : Answer) → IsErrAnd r (λ x. x ≡ a) → IsRefused words told old new a →
      ((lines workers : ℕ) → IsCommand words (sample lines workers) → a ≡ answer.Memory) → IsReplied words told old new r
  unprepared_replied (Ok output) a e h s = absurd e
  unprepared_replied (Err x) a e h s = record {
    form = tt;
    status = tt;
    ok = tt;
    err = subst (IsRefused words told old new) (sym e) h;
    sampled = λ lines workers is. e ∙ s lines workers is;
  }

  module _ (command : Command) (is : IsCommand words command) where
    -- an output with status 0 that the table has for the command
    done_replied : (output : Output) → output.status ≡ 0 → IfSome told (λ files. ShowsCommand command files output) → IsReplied words told old new (Ok output)
    done_replied output e h = record {
      form = (command, is);
      status = inl e;
      ok = command_shown words command is told (Ok output) h;
      err = tt;
      sampled = λ lines workers s. e;
    }

  -- the grammar that the file holds is one
  checked_shown : (grammar : List ℕ) (output : Output) → (files : Option Told) → IsPreparedFor files (check grammar) (prepared.Output output) → IfSome files (λ f. ShowsCommand (check grammar) f output)
  checked_shown grammar output None h = tt
  checked_shown grammar output (Some f) ((bytes, e, (g, c)), s) = check_shown grammar g (Some f) output (bytes, e, c) s

  -- where all the output was prepared
  pub output_replied : (command : Command) → IsCommand words command → (output : Output) → IsPreparedFor told command (prepared.Output output) → IsReplied words told old new (Ok output)
  output_replied (check grammar) is output h = done_replied (check grammar) is output h.1.status (checked_shown grammar output told h)
  output_replied (parse grammar text workers) is output h = absurd h
  output_replied (sample lines workers) is output h = absurd h

  not_sample : (grammar text : List ℕ) (workers : ℕ) → IsCommand words (parse grammar text workers) → (lines n : ℕ) → IsCommand words (sample lines n) → ⊥
  not_sample grammar text workers is lines n s = absurd (cc (command_is_one words (parse grammar text workers) (sample lines n) is s))

  module _ (task : Task) where
    -- where what is wanted of the text is shown
    pub text_replied : (command : Command) → IsCommand words command → (output : Output) → IsPreparedFor told command (prepared.Parse task) → (output.status ≡ 0) ⊎ (output.status ≡ 1) →
        ShowsWanted task.wanted task.grammar task.text.items output → IsReplied words told old new (Ok output)
    text_replied (parse grammar text workers) is output (c, q, n, w) status shown =
        let document : ShowsText task.grammar task.text.items output = subst (λ x. ShowsWanted x task.grammar task.text.items output) w shown in
        record {
          form = (parse grammar text workers, is);
          status = status;
          ok = command_shown words (parse grammar text workers) is told (Ok output) (output_shown grammar text workers task.grammar task.text.items told output c q document);
          err = tt;
          sampled = λ lines m s. absurd (not_sample grammar text workers is lines m s);
        }
    text_replied (check grammar) is output h status shown = absurd h
    text_replied (sample lines workers) is output (c, q, n, w) status shown =
        let small = (sample_lines words lines workers is).1 in
        let wanted : ShowsFigures task.grammar task.text.items output = subst (λ x. ShowsWanted x task.grammar task.text.items output) w shown in
        let figures : ShowsFigures task.grammar (sample_text lines) output = subst (λ s. ShowsFigures task.grammar s output) q wanted in
        done_replied (sample lines workers) is output (sample_done lines small task.grammar c output figures)
        (told_of_all (Ok output) told (ShowsCommand (sample lines workers)) (λ files. sample_shown lines small task.grammar c files workers output figures))

    -- where nothing comes of the text
    pub fault_replied : (command : Command) → IsCommand words command → (f : ParseFault) (r : Result Output Answer) → IsErrAnd r (λ x. x ≡ of_fault f) → IsPreparedFor told command (prepared.Parse task) →
        IsFault task.grammar task.text.items f → IsReplied words told old new r
    fault_replied (parse grammar text workers) is f r e (c, q, n, w) fault =
        unprepared_replied r (of_fault f) e (refused_for words (parse grammar text workers) is told old new (of_fault f) (text_refused grammar text workers task.grammar task.text.items told old new f c q fault))
        (λ lines m s. absurd (not_sample grammar text workers is lines m s))
    fault_replied (check grammar) is f r e h fault = absurd h
    fault_replied (sample lines workers) is f r e (c, q, n, w) fault =
        let memory : of_fault f ≡ answer.Memory = sample_parsed lines (sample_lines words lines workers is).1 task.grammar c f (subst (λ s. IsFault task.grammar s f) q fault) in
        unprepared_replied r (of_fault f) e (subst (IsRefused words told old new) (sym memory) tt) (λ n m s. memory)
