-- What goes to the output, as that of an outcome of the table.
-- Source: this project's own.
use Rattle.std.specs.Prelude.{◌≡◌, ◌<◌, ℕ, List, [], length}
use Rattle.ix_model.specs.declared.grammar.Grammar.{Grammar}
use Rattle.ix_model.specs.Answers.Answer.{TextAnswered, Measured, CommandAnswered}
use Rattle.ix_model.specs.Answers.CommandLine.{Command}
use Rattle.ix_model.specs.Answers.Outcome.{Outcome, status_of, output_of, message_of}
use Rattle.ix_edge.specs.Told.{Told, held}
use Rattle.ix_cli.specs.declared.output.Output.{Output}
use Rattle.ix_cli.specs.declared.task.Wanted.{Wanted}
use Rattle.ix_cli.specs.declared.task.Wanted.TheVariants.{Document, Figures}
use Rattle.ix_cli.specs.Contents.{HasBytes}
use Rattle.ix_cli.specs.Table.{IsReply}

-- the status and the bytes are the outcome's, which has some bytes and no message
pub record Shows (o : Outcome) (output : Output) : Type 0 where
  pub status : output.status ≡ status_of o
  pub bytes : HasBytes output.content (output_of o)
  pub some : 0 < length (output_of o)
  pub silent : message_of o ≡ []

-- it is what comes of the bytes of a text
abbrev pub ShowsText : Grammar → List ℕ → Output → Type 0
ShowsText g text output = (o : Outcome) × TextAnswered g text o × Shows o output

-- it is what comes of the bytes of a text where its figures are asked for
abbrev pub ShowsFigures : Grammar → List ℕ → Output → Type 0
ShowsFigures g text output = (o : Outcome) × Measured g text o × Shows o output

-- it is what is wanted of the bytes of a text
abbrev pub ShowsWanted : Wanted → Grammar → List ℕ → Output → Type 0
ShowsWanted Document g text output = ShowsText g text output
ShowsWanted Figures g text output = ShowsFigures g text output

-- it is what the table has for a command and the files
abbrev pub ShowsCommand : Command → Told → Output → Type 0
ShowsCommand command files output = (o : Outcome) × CommandAnswered (held files) command o × Shows o output

-- it is what the table has for the words and the files
abbrev pub ShowsReply : List (List ℕ) → Told → Output → Type 0
ShowsReply words files output = (o : Outcome) × IsReply words files o × Shows o output
