-- The line and the status of each answer that is no document.
-- Source: this project's own.
use Rattle.std.specs.Prelude.{ℕ, List, [], ◌∷◌, ◌++◌, codes, string_bytes}
use Rattle.ix_model.specs.Answers.Outcome.{no_form, refused, message_of}
use Rattle.ix_model.specs.Answers.Outcome as outcome
use Rattle.ix_engine.specs.declared.outcome.DynFault.{DynFault}
use Rattle.ix_engine.specs.declared.outcome.ParseFault.{ParseFault}
use Rattle.ix_engine.specs.declared.outcome.ParseFault.TheVariants as fault
use Rattle.ix_engine.specs.declared.refusal.Refusal.{Refusal}
use Rattle.ix_engine.specs.declared.refusal.Refusal.TheVariants as refusal
use Rattle.ix_engine.specs.Answers.{code_of, fault_outcome}
use Rattle.ix_engine.specs.Compiled.{outcome_of}
use Rattle.ix_cli.specs.declared.answer.Answer.{Answer}
use Rattle.ix_cli.specs.declared.answer.Answer.TheVariants as answer

-- with the name of the file
abbrev pub read_line : List ℕ → List ℕ
read_line name = codes "ixml: cannot read " ++ (name ++ 10 ∷ [])

abbrev pub write_line : List ℕ
write_line = codes "ixml: cannot write\n"

abbrev pub memory_line : List ℕ
memory_line = codes "ixml: out of memory\n"

-- of a grammar that is refused
abbrev pub refusal_line : Refusal → List ℕ
refusal_line refusal.Memory = memory_line
refusal_line r = message_of (outcome_of r)

abbrev pub refusal_status : Refusal → ℕ
refusal_status refusal.Memory = 9
refusal_status r = outcome.status_of (outcome_of r)

-- of a derivation that is no document
abbrev pub code_line : DynFault → List ℕ
code_line code = message_of (refused (code_of code))

-- of a text of which no document comes
abbrev pub fault_line : ParseFault → List ℕ
fault_line fault.Memory = memory_line
fault_line f = message_of (fault_outcome f)

abbrev pub fault_status : ParseFault → ℕ
fault_status fault.Memory = 9
fault_status f = outcome.status_of (fault_outcome f)

abbrev pub line_of : Answer → List ℕ
line_of answer.Words = message_of no_form
line_of (answer.Grammar r) = refusal_line r
line_of (answer.Text f) = fault_line f
line_of (answer.Read name) = read_line (string_bytes name)
line_of answer.Write = write_line
line_of answer.Memory = memory_line

abbrev pub status_of : Answer → ℕ
status_of answer.Words = outcome.status_of no_form
status_of (answer.Grammar r) = refusal_status r
status_of (answer.Text f) = fault_status f
status_of (answer.Read name) = 7
status_of answer.Write = 8
status_of answer.Memory = 9
