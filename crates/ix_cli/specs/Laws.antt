-- Laws of the table of answers.
use Rattle.std.specs.Prelude.{◌≡◌, ℕ, List}
use Rattle.ix_model.specs.Answers.Outcome.{Outcome, status_of}
use Rattle.ix_edge.specs.Told.{Told}
use Rattle.ix_cli.specs.Causes.{IsCaused}
use Rattle.ix_cli.specs.Table.{IsReply}

-- the table has at most one answer
abbrev pub ReplyIsOne : Type 0
ReplyIsOne = (words : List (List ℕ)) (told : Told) (reply other : Outcome) → IsReply words told reply → IsReply words told other → reply ≡ other

-- the status of what the table has comes exactly where its cause holds
abbrev pub ReplyIsCaused : Type 0
ReplyIsCaused = (words : List (List ℕ)) (told : Told) (reply : Outcome) → IsReply words told reply → IsCaused words told (status_of reply)
