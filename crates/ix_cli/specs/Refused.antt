-- Why nothing goes to the output: the cause of each answer.
-- Source: this project's own.
use Rattle.std.specs.Prelude.{◌≢◌, ℕ, List, Option, IfSome, string_bytes}
use Rattle.ix_model.specs.Answers.Answer.{CommandAnswered}
use Rattle.ix_model.specs.Answers.CommandLine.{Command, IsCommand, HasNoForm}
use Rattle.ix_edge.specs.Causes.{Rose}
use Rattle.ix_edge.specs.Told.{Told, held}
use Rattle.ix_engine.specs.declared.outcome.ParseFault.TheVariants as fault
use Rattle.ix_engine.specs.declared.refusal.Refusal.TheVariants as refusal
use Rattle.ix_engine.specs.Answers.{fault_outcome}
use Rattle.ix_engine.specs.Compiled.{outcome_of}
use Rattle.ix_cli.specs.declared.answer.Answer.{Answer}
use Rattle.ix_cli.specs.declared.answer.Answer.TheVariants as answer
use Rattle.ix_cli.specs.Unread.{IsNext}

-- of a command: the table has the refusal or the fault for it; or the file that was next could not be read; or memory ran out; the counts
-- are those before and after the files were read
abbrev pub IsRefusedFor : Command → Option Told → (List ℕ → ℕ) → (List ℕ → ℕ) → Answer → Type 0
IsRefusedFor command told old new answer.Words = ⊥
IsRefusedFor command told old new (answer.Grammar r) = (r ≢ refusal.Memory) × IfSome told (λ files. CommandAnswered (held files) command (outcome_of r))
IsRefusedFor command told old new (answer.Text f) = (f ≢ fault.Memory) × IfSome told (λ files. CommandAnswered (held files) command (fault_outcome f))
IsRefusedFor command told old new (answer.Read name) = Rose (old (string_bytes name)) (new (string_bytes name)) × IsNext told command (string_bytes name)
IsRefusedFor command told old new answer.Write = ⊥
IsRefusedFor command told old new answer.Memory = Unit {0}

-- of words: they have no form; or memory ran out; or this is why the command that they ask for is refused
abbrev pub IsRefused : List (List ℕ) → Option Told → (List ℕ → ℕ) → (List ℕ → ℕ) → Answer → Type 0
IsRefused words told old new answer.Words = HasNoForm words
IsRefused words told old new answer.Memory = Unit {0}
IsRefused words told old new a = (command : Command) × IsCommand words command × IsRefusedFor command told old new a
