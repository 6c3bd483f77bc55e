-- What the command promises of its status, its output and its message.
-- Source: this project's own.
use Rattle.std.specs.Prelude.{◌≡◌, ◌⊎◌, ◌<◌, ℕ, List, [], Option, IfSome, length, take}
use Rattle.std.specs.Io.KnownBytes.{Appends}
use Rattle.ix_model.specs.Answers.Outcome.{Outcome, status_of, output_of, message_of}
use Rattle.ix_edge.specs.Told.{Told}
use Rattle.ix_cli.specs.declared.answer.Answer.{Answer}
use Rattle.ix_cli.specs.Lines as lines
use Rattle.ix_cli.specs.Table.{IsReply}

-- Nothing is said at status 0 and at 1, and else the line of an answer that has this status.
abbrev pub IsMessage : ℕ → (List ℕ → Type 0) → Type 0
IsMessage status says =
    (((status ≡ 0) ⊎ (status ≡ 1)) × says [])
    ⊎ ((answer : Answer) × (status ≡ lines.status_of answer) × says (lines.line_of answer))

module _ (words : List (List ℕ)) (told : Option Told) (old new : Option (List ℕ)) where
  -- Where the files tell what they hold, the status is the table's, the table's output was appended, and its line was said.
  abbrev pub IsAnswered : ℕ → (List ℕ → Type 0) → Type 0
  IsAnswered status says = IfSome told (λ files. (o : Outcome) × IsReply words files o × (status ≡ status_of o) × Appends old new (output_of o) × says (message_of o))

  -- Where the files tell what they hold, the table has an output that is not empty, and some of its bytes from the front were appended.
  abbrev pub IsCutOff : Type 0
  IsCutOff = IfSome told (λ files. (o : Outcome) × IsReply words files o × (0 < length (output_of o)) × (n : ℕ) × Appends old new (take n (output_of o)))
