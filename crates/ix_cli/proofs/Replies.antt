-- From what was loaded and found to the table of answers.
use Rattle.std.proofs.Common.{◌≡◌, refl, ap, sym, ◌∙◌, subst, ℕ, ◌≤◌, List, take, Option, None, Some, Result, Ok, Err, IfOk, IfErr, IfSome, arith}
use Rattle.std.specs.Result.{IsErrAnd}
use mathlib.Core.Logic.{inl, inr}
use Rattle.ix_model.specs.declared.counts.Counts.{Counts}
use Rattle.ix_model.specs.declared.grammar.Grammar.{Grammar}
use Rattle.ix_model.specs.Answers.Answer.{HoldsConforming, TextAnswered, Measured, CommandAnswered}
use Rattle.ix_model.specs.Answers.CommandLine.{Command, parse, check, sample, IsCommand, HasNoForm}
use Rattle.ix_model.specs.Answers.Outcome.{Outcome, conforms, summarised, status_of}
use Rattle.ix_model.specs.Answers.Decoding.{decoded}
use Rattle.ix_model.specs.Answers.Sample.{sample_grammar, sample_text}
use Rattle.ix_edge.specs.Causes.{Rose}
use Rattle.ix_edge.specs.Told.{Told, held}
use Rattle.ix_engine.specs.declared.outcome.ParseFault.{ParseFault}
use Rattle.ix_engine.specs.declared.outcome.ParseFault.TheVariants as fault
use Rattle.ix_engine.specs.Answers.{fault_outcome}
use Rattle.ix_engine.specs.declared.refusal.Refusal.{Refusal}
use Rattle.ix_engine.specs.declared.refusal.Refusal.TheVariants as refusal
use Rattle.ix_engine.specs.Compiled.{outcome_of, IsRefusalOf}
use Rattle.ix_engine.specs.Parsed.{IsFault}
use Rattle.ix_words.specs.declared.command.WordsFault.{WordsFault}
use Rattle.ix_words.specs.declared.command.WordsFault.TheVariants as words_fault
use Rattle.ix_cli.specs.declared.answer.Answer.{Answer}
use Rattle.ix_cli.specs.declared.answer.Answer.TheVariants as answer
use Rattle.ix_cli.specs.declared.output.Output.{Output}
use Rattle.ix_cli.specs.declared.task.Prepared.{Prepared}
use Rattle.ix_cli.specs.Loaded.{Holds, IsLoadFault, IsGrammarFault}
use Rattle.ix_cli.specs.Means.{of_words, of_refusal, of_fault}
use Rattle.ix_cli.specs.Named.{HasCommand}
use Rattle.ix_cli.specs.Prepared.{IsPreparedFor}
use Rattle.ix_cli.specs.Refused.{IsRefusedFor, IsRefused}
use Rattle.ix_cli.specs.Shown.{Shows, ShowsText, ShowsFigures, ShowsCommand, ShowsReply}
use Rattle.ix_answer_laws.proofs.OneAnswer.{refused_or_held}
use Rattle.ix_sample_laws.specs.SampleRules.{sample_rules}
use Rattle.ix_sample_laws.proofs.SampleConforms.{sample_conforms}
use Rattle.ix_sample_text_laws.proofs.Summarised.{sample_summarised}
use Rattle.ix_spelling_laws.proofs.ReadingComplete.{spelled_once}
use Rattle.ix_cli.proofs.LoadedFiles.{text_whole}

-- a count that rose later rose
rose_since : (old mid new : ℕ) → old ≤ mid → Rose mid new → Rose old new
rose_since old mid new l r = omega (arith, l, r)

module _ (grammar : List ℕ) where
  -- a grammar that was not loaded, for `check`
  pub check_refused : (told : Option Told) (old new : List ℕ → ℕ) (a : Answer) → IsGrammarFault told old new grammar a → IsRefusedFor (check grammar) told old new a
  check_refused None old new (answer.Grammar r) h = (h.0, tt)
  check_refused (Some files) old new (answer.Grammar r) h = (h.0, (h.1.0, h.1.1, inl h.1.2))
  check_refused told old new (answer.Read name) h = (subst (λ n. Rose (old n) (new n)) (sym h.0) h.1, h.0)
  check_refused told old new answer.Memory h = tt
  check_refused told old new a h = absurd h

  -- a grammar that was loaded is one
  pub check_shown : (g : Grammar) (told : Option Told) (output : Output) → Holds told grammar (λ bytes. HoldsConforming bytes g) → Shows conforms output → IfSome told (λ files. ShowsCommand (check grammar) files output)
  check_shown g None output c s = tt
  check_shown g (Some files) output (bytes, e, c) s = (conforms, (bytes, e, inr (g, c, refl)), s)

  module _ (text : List ℕ) (workers : ℕ) where
    -- a grammar that was not loaded, for `parse`
    pub grammar_refused : (told : Option Told) (old new : List ℕ → ℕ) (a : Answer) → IsGrammarFault told old new grammar a → IsRefusedFor (parse grammar text workers) told old new a
    grammar_refused None old new (answer.Grammar r) h = (h.0, tt)
    grammar_refused (Some files) old new (answer.Grammar r) h = (h.0, (h.1.0, h.1.1, inl h.1.2))
    grammar_refused told old new (answer.Read name) h = (subst (λ n. Rose (old n) (new n)) (sym h.0) h.1, inl h.0)
    grammar_refused told old new answer.Memory h = tt
    grammar_refused told old new a h = absurd h

    module _ (g : Grammar) where
      -- a text that was not loaded
      pub text_unread : (told : Option Told) (old mid new : List ℕ → ℕ) (a : Answer) → Holds told grammar (λ bytes. HoldsConforming bytes g) → old text ≤ mid text → IsLoadFault mid new text a →
          IsRefusedFor (parse grammar text workers) told old new a
      text_unread None old mid new (answer.Read name) s l h =
          (subst (λ n. Rose (old n) (new n)) (sym h.0) (rose_since (old text) (mid text) (new text) l h.1), inr (h.0, tt))
      text_unread (Some files) old mid new (answer.Read name) s l h =
          (subst (λ n. Rose (old n) (new n)) (sym h.0) (rose_since (old text) (mid text) (new text) l h.1), inr (h.0, (s.0, s.1, (g, s.2))))
      text_unread told old mid new answer.Memory s l h = tt
      text_unread told old mid new a s l h = absurd h

      module _ (v : List ℕ) where
        -- what comes of the text that was loaded is the table's
        text_reply : (files : Told) (o : Outcome) → Holds (Some files) grammar (λ bytes. HoldsConforming bytes g) → Holds (Some files) text (λ bytes. v ≡ take 16777217 bytes) → TextAnswered g v o →
            CommandAnswered (held files) (parse grammar text workers) o
        text_reply files o (bytes, e, c) (s, f, q) h = (bytes, e, inr (g, c, s, f, text_whole g o v s q h))

        pub output_shown : (told : Option Told) (output : Output) → Holds told grammar (λ bytes. HoldsConforming bytes g) → Holds told text (λ bytes. v ≡ take 16777217 bytes) → ShowsText g v output →
            IfSome told (λ files. ShowsCommand (parse grammar text workers) files output)
        output_shown None output c q h = tt
        output_shown (Some files) output c q (o, h, s) = (o, text_reply files o c q h, s)

        fault_reply : (told : Option Told) (o : Outcome) → Holds told grammar (λ bytes. HoldsConforming bytes g) → Holds told text (λ bytes. v ≡ take 16777217 bytes) → TextAnswered g v o →
            IfSome told (λ files. CommandAnswered (held files) (parse grammar text workers) o)
        fault_reply None o c q h = tt
        fault_reply (Some files) o c q h = text_reply files o c q h

        -- a text of which no document comes
        pub text_refused : (told : Option Told) (old new : List ℕ → ℕ) (f : ParseFault) → Holds told grammar (λ bytes. HoldsConforming bytes g) → Holds told text (λ bytes. v ≡ take 16777217 bytes) → IsFault g v f →
            IsRefusedFor (parse grammar text workers) told old new (of_fault f)
        text_refused told old new fault.Memory c q h = tt
        text_refused told old new fault.TooLong c q h = ((λ e. cc e), fault_reply told (fault_outcome fault.TooLong) c q h)
        text_refused told old new (fault.NotUtf8 valid) c q h = ((λ e. cc e), fault_reply told (fault_outcome (fault.NotUtf8 valid)) c q h)
        text_refused told old new (fault.Dynamic code) c q h = ((λ e. cc e), fault_reply told (fault_outcome (fault.Dynamic code)) c q h)

-- ---- the sample

-- its grammar is not refused, but for want of memory
pub sample_compiled : (r : Refusal) → IsRefusalOf sample_grammar r → of_refusal r ≡ answer.Memory
sample_compiled refusal.Memory h = refl
sample_compiled r h = absurd (refused_or_held sample_grammar (outcome_of r) sample_rules h sample_conforms)

module _ (lines : ℕ) (small : lines ≤ 10000) (g : Grammar) (c : HoldsConforming sample_grammar g) where
  same_rules : g ≡ sample_rules
  same_rules = spelled_once (decoded sample_grammar) g sample_rules c.0.1 sample_conforms.0.1

  figures : (o : Outcome) → Measured g (sample_text lines) o → (text output : ℕ) × (counts : Counts) × (o ≡ summarised text counts output)
  figures o m = sample_summarised lines small o (subst (λ x. Measured x (sample_text lines) o) same_rules m)

  -- neither is its text
  pub sample_parsed : (f : ParseFault) → IsFault g (sample_text lines) f → of_fault f ≡ answer.Memory
  sample_parsed fault.Memory h = refl
  sample_parsed fault.TooLong h = absurd (cc (figures (fault_outcome fault.TooLong) h).3)
  sample_parsed (fault.NotUtf8 valid) h = absurd (cc (figures (fault_outcome (fault.NotUtf8 valid)) h).3)
  sample_parsed (fault.Dynamic code) h = absurd (cc (figures (fault_outcome (fault.Dynamic code)) h).3)

  -- and it has figures
  pub sample_done : (output : Output) → ShowsFigures g (sample_text lines) output → output.status ≡ 0
  sample_done output (o, m, s) = s.status ∙ ap status_of (figures o m).3

  pub sample_shown : (files : Told) (workers : ℕ) (output : Output) → ShowsFigures g (sample_text lines) output → ShowsCommand (sample lines workers) files output
  sample_shown files workers output (o, m, s) = (o, (g, c, m), s)

-- what is true of the error that is handed on is true of the result
pub handed_on : {T : Type 0} (r : Result T Answer) (P : Answer → Type 0) (a : Answer) → IsErrAnd r (λ x. x ≡ a) → P a → IfErr r P
handed_on (Ok v) P a e p = tt
handed_on (Err x) P a e p = subst P (sym e) p

-- what holds of all files holds of those that tell
pub told_of_all : (r : Result Output Answer) (told : Option Told) (P : Told → Output → Type 0) → ((files : Told) → IfOk r (P files)) → IfOk r (λ output. IfSome told (λ files. P files output))
told_of_all (Ok output) None P h = tt
told_of_all (Ok output) (Some files) P h = h files
told_of_all (Err a) told P h = tt

-- ---- from a command to the words that ask for it

-- words that are refused
pub words_refused : (words : List (List ℕ)) (told : Option Told) (old new : List ℕ → ℕ) (f : WordsFault) → (f ≡ words_fault.NoForm → HasNoForm words) → IsRefused words told old new (of_words f)
words_refused words told old new words_fault.NoForm h = h refl
words_refused words told old new words_fault.Memory h = tt

-- words that have a command are refused for want of memory alone
pub words_wanting : (words : List (List ℕ)) (f : WordsFault) → (f ≡ words_fault.NoForm → HasNoForm words) → HasCommand words → of_words f ≡ answer.Memory
words_wanting words words_fault.NoForm h k = absurd (h refl k.0 k.1)
words_wanting words words_fault.Memory h k = refl

module _ (words : List (List ℕ)) (command : Command) (is : IsCommand words command) where
  -- what was prepared for the command was prepared for the words
  pub command_prepared : (told : Option Told) (r : Result Prepared Answer) → IfOk r (IsPreparedFor told command) → IfOk r (λ p. (other : Command) × IsCommand words other × IsPreparedFor told other p)
  command_prepared told (Ok p) h = (command, is, h)
  command_prepared told (Err a) h = tt

  pub refused_for : (told : Option Told) (old new : List ℕ → ℕ) (a : Answer) → IsRefusedFor command told old new a → IsRefused words told old new a
  refused_for told old new answer.Words h = absurd h
  refused_for told old new answer.Memory h = tt
  refused_for told old new (answer.Grammar r) h = (command, is, h)
  refused_for told old new (answer.Text f) h = (command, is, h)
  refused_for told old new (answer.Read name) h = (command, is, h)
  refused_for told old new answer.Write h = absurd h

  pub command_refused : {T : Type 0} (told : Option Told) (old new : List ℕ → ℕ) (r : Result T Answer) → IfErr r (IsRefusedFor command told old new) → IfErr r (IsRefused words told old new)
  command_refused told old new (Ok v) h = tt
  command_refused told old new (Err a) h = refused_for told old new a h

  pub command_shown : (told : Option Told) (r : Result Output Answer) → IfOk r (λ output. IfSome told (λ files. ShowsCommand command files output)) → IfOk r (λ output. IfSome told (λ files. ShowsReply words files output))
  command_shown None (Ok output) h = tt
  command_shown (Some files) (Ok output) h = (h.0, inr (command, is, h.1), h.2)
  command_shown told (Err a) h = tt
