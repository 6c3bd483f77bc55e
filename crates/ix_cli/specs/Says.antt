-- What a sink of messages was told.
use Rattle.std.specs.Prelude.{◌≡◌, ◌⊎◌, ℕ, List, Option}
use Rattle.std.specs.Io.KnownBytes.{Appends}
use Rattle.ix_edge.specs.Causes.{Rose}
use Rattle.ix_cli.specs.declared.answer.Answer.{Answer}
use Rattle.ix_cli.specs.Lines.{line_of, status_of, memory_line}

module _ (old new : Option (List ℕ)) (faults_old faults_new : ℕ) where
  -- the line was appended, unless the sink's count of faults rose
  abbrev pub Says : List ℕ → Type 0
  Says line = ¬ (Rose faults_old faults_new) → Appends old new line

  -- the answer's status and line, or those of want of memory
  abbrev pub Refuses : Answer → ℕ → Type 0
  Refuses answer status = (status ≡ status_of answer × Says (line_of answer)) ⊎ (status ≡ 9 × Says memory_line)
