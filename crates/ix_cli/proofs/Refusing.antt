-- What a refusal answers.
use Rattle.std.proofs.Common.{◌≡◌, ◌≢◌, ◌⊎◌, refl, ap, sym, ◌∙◌, subst, ℕ, List, [], Option, None, Some, IfSome, String, Global, string_bytes, arith}
use Rattle.std.specs.Io.KnownBytes.{Appends}
use Rattle.std.proofs.KnownBytes.{Appends-nil}
use mathlib.Core.Logic.{inl, inr}
use Rattle.ix_model.specs.Answers.Answer.{CommandAnswered}
use Rattle.ix_model.specs.Answers.CommandLine.{Command, parse, check, IsCommand, HasNoForm}
use Rattle.ix_model.specs.Answers.Outcome.{Outcome, no_form, status_of, output_of, message_of}
use Rattle.ix_engine.specs.Answers.{fault_outcome}
use Rattle.ix_engine.specs.Compiled.{outcome_of}
use Rattle.ix_edge.specs.Causes.{Rose}
use Rattle.ix_edge.specs.Told.{Told, held}
use Rattle.ix_cli.specs.declared.answer.Answer.{Answer}
use Rattle.ix_cli.specs.declared.answer.Answer.TheVariants as answer
use Rattle.ix_cli.specs.Answered.{IsAnswered, IsMessage}
use Rattle.ix_cli.specs.Lines as lines
use Rattle.ix_cli.specs.Named.{Names}
use Rattle.ix_cli.specs.Refused.{IsRefused}
use Rattle.ix_cli.specs.Says.{Says, Refuses}
use Rattle.ix_cli.specs.Table.{IsReply}
use Rattle.ix_cli.specs.Unread.{IsNext, IsUnread}
use Rattle.ix_cli.proofs.Statuses.{refusal_told, fault_told, refusal_not_two, fault_not_two, refusal_not_eight, fault_not_eight}

module _ (words : List (List ℕ)) (out mo mn : Option (List ℕ)) (before now : ℕ) where
  -- the answer of the table, with nothing written and its line said
  replied : (told : Option Told) (o : Outcome) (status : ℕ) (line : List ℕ) → IfSome told (λ files. IsReply words files o) → status ≡ status_of o → line ≡ message_of o → output_of o ≡ [] →
      Says mo mn before now line → IsAnswered words told out out status (Says mo mn before now)
  replied None o status line h e m n s = tt
  replied (Some files) o status line h e m n s = (o, h, e, subst (Appends out out) (sym n) (Appends-nil out), subst (Says mo mn before now) m s)

  words_replied : (told : Option Told) → HasNoForm words → IfSome told (λ files. IsReply words files no_form)
  words_replied None h = tt
  words_replied (Some files) h = inl (h, refl)

  command_replied : (told : Option Told) (command : Command) (o : Outcome) → IsCommand words command → IfSome told (λ files. CommandAnswered (held files) command o) → IfSome told (λ files. IsReply words files o)
  command_replied None command o is h = tt
  command_replied (Some files) command o is h = inr (command, is, h)

  -- a refusal other than by a fault or for want of memory is the table's answer
  refused_replied : (told : Option Told) (old new : List ℕ → ℕ) (a : Answer) (status : ℕ) → IsRefused words told old new a → Refuses mo mn before now a status →
      ((name : String Global) → a ≡ answer.Read name → ⊥) → status ≢ 9 → IsAnswered words told out out status (Says mo mn before now)
  refused_replied told old new answer.Words status h (inl r) b c = replied told no_form status _ (words_replied told h) r.0 refl refl r.1
  refused_replied told old new (answer.Grammar x) status h (inl r) b c =
      let t = refusal_told x h.2.0 in replied told (outcome_of x) status _ (command_replied told h.0 (outcome_of x) h.1 h.2.1) (r.0 ∙ t.0) t.1 t.2 r.1
  refused_replied told old new (answer.Text f) status h (inl r) b c =
      let t = fault_told f h.2.0 in replied told (fault_outcome f) status _ (command_replied told h.0 (fault_outcome f) h.1 h.2.1) (r.0 ∙ t.0) t.1 t.2 r.1
  refused_replied told old new (answer.Read name) status h (inl r) b c = absurd (b name refl)
  refused_replied told old new answer.Write status h (inl r) b c = absurd h.2
  refused_replied told old new answer.Memory status h (inl r) b c = absurd (c r.0)
  refused_replied told old new a status h (inr r) b c = absurd (c r.0)

  pub refused_answered : (told : Option Told) (old new : List ℕ → ℕ) (a : Answer) (status : ℕ) → IsRefused words told old new a → Refuses mo mn before now a status →
      status ≢ 7 → status ≢ 8 → status ≢ 9 → IsAnswered words told out out status (Says mo mn before now)
  refused_answered told old new (answer.Read name) status h (inl r) a b c = absurd (a r.0)
  refused_answered told old new (answer.Read name) status h (inr r) a b c = absurd (c r.0)
  refused_answered told old new a status h r b c d = refused_replied told old new a status h r (λ name e. cc e) d

  -- a file that is next is one that the words name
  named_next : (told : Option Told) (command : Command) (name : List ℕ) → IsCommand words command → IsNext told command name → Names words name
  named_next told (parse grammar text workers) name is (inl e) = (parse grammar text workers, is, inl e)
  named_next told (parse grammar text workers) name is (inr (e, h)) = (parse grammar text workers, is, inr e)
  named_next told (check grammar) name is e = (check grammar, is, inl e)
  named_next told command name is h = absurd h

  -- so where no count rose, each refusal but for want of memory is the table's answer
  pub refused_complete : (told : Option Told) (old new : List ℕ → ℕ) (a : Answer) (status : ℕ) → IsRefused words told old new a → Refuses mo mn before now a status →
      ((name : List ℕ) → Names words name → ¬ (Rose (old name) (new name))) → status ≢ 9 → IsAnswered words told out out status (Says mo mn before now)
  refused_complete told old new (answer.Read name) status h r n c = absurd (n _ (named_next told h.0 _ h.1 h.2.1) h.2.0)
  refused_complete told old new a status h r n c = refused_replied told old new a status h r (λ name e. cc e) c

  -- words without a form have status 2, or 9 for want of memory
  pub formless_status : (told : Option Told) (old new : List ℕ → ℕ) (a : Answer) (status : ℕ) → IsRefused words told old new a → Refuses mo mn before now a status → HasNoForm words → (status ≡ 2) ⊎ (status ≡ 9)
  formless_status told old new a status h (inr r) none = inr r.0
  formless_status told old new answer.Words status h (inl r) none = inl r.0
  formless_status told old new answer.Memory status h (inl r) none = inr r.0
  formless_status told old new (answer.Grammar x) status h (inl r) none = absurd (none h.0 h.1)
  formless_status told old new (answer.Text f) status h (inl r) none = absurd (none h.0 h.1)
  formless_status told old new (answer.Read name) status h (inl r) none = absurd (none h.0 h.1)
  formless_status told old new answer.Write status h (inl r) none = absurd (none h.0 h.1)

  -- and no other words have status 2
  pub two_is_formless : (told : Option Told) (old new : List ℕ → ℕ) (a : Answer) (status : ℕ) → IsRefused words told old new a → Refuses mo mn before now a status → status ≡ 2 → HasNoForm words
  two_is_formless told old new a status h (inr r) e = absurd (omega (arith, e, r.0))
  two_is_formless told old new answer.Words status h (inl r) e = h
  two_is_formless told old new (answer.Grammar x) status h (inl r) e = absurd (refusal_not_two x (sym r.0 ∙ e))
  two_is_formless told old new (answer.Text f) status h (inl r) e = absurd (fault_not_two f (sym r.0 ∙ e))
  two_is_formless told old new a status h (inl r) e = absurd (omega (arith, e, r.0))

  -- none has the status of an output that could not be written
  pub not_eight : (told : Option Told) (old new : List ℕ → ℕ) (a : Answer) (status : ℕ) → IsRefused words told old new a → Refuses mo mn before now a status → status ≢ 8
  not_eight told old new a status h (inr r) e = omega (arith, e, r.0)
  not_eight told old new (answer.Grammar x) status h (inl r) e = refusal_not_eight x (sym r.0 ∙ e)
  not_eight told old new (answer.Text f) status h (inl r) e = fault_not_eight f (sym r.0 ∙ e)
  not_eight told old new answer.Write status h (inl r) e = absurd h.2
  not_eight told old new a status h (inl r) e = omega (arith, e, r.0)

  -- a file that is named could not be read
  pub named_unread : (told : Option Told) (old new : List ℕ → ℕ) (name : String Global) → IsRefused words told old new (answer.Read name) → IsUnread words told old new (string_bytes name)
  named_unread told old new name h = (h.0, h.1, h.2.0, h.2.1)

  -- want of memory has status 9
  pub wanting_status : (a : Answer) (status : ℕ) → a ≡ answer.Memory → Refuses mo mn before now a status → status ≡ 9
  wanting_status a status e (inl r) = r.0 ∙ ap lines.status_of e
  wanting_status a status e (inr r) = r.0

-- what a refusal says is the line of an answer that has its status
pub refusal_said : (old new : Option (List ℕ)) (before now : ℕ) (a : Answer) (status : ℕ) → Refuses old new before now a status → IsMessage status (Says old new before now)
refusal_said old new before now a status (inl r) = inr (a, r.0, r.1)
refusal_said old new before now a status (inr r) = inr (answer.Memory, r.0, r.1)
