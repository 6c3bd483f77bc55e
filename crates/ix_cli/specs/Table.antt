-- What the command answers where nothing outside fails: the table of its outcomes, over files that tell what they hold.
-- Source: this project's own.
use Rattle.std.specs.Prelude.{ℕ, List}
use Rattle.ix_model.specs.Answers.Answer.{Answered}
use Rattle.ix_model.specs.Answers.Outcome.{Outcome}
use Rattle.ix_edge.specs.Told.{Told, held}

-- this comes of the words and of what the files hold
abbrev pub IsReply : List (List ℕ) → Told → Outcome → Type 0
IsReply words files o = Answered words (held files) o
