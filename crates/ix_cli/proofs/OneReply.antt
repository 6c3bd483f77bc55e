-- The table has at most one answer for the words and the files.
use Rattle.std.proofs.Common.{◌≡◌, ℕ, List}
use Rattle.ix_model.specs.Answers.Outcome.{Outcome}
use Rattle.ix_edge.specs.Told.{Told, held}
use Rattle.ix_answer_laws.proofs.OneAnswer.{answered_once}
use Rattle.ix_cli.specs.Table.{IsReply}

pub one_reply : (words : List (List ℕ)) (told : Told) (o p : Outcome) → IsReply words told o → IsReply words told p → o ≡ p
one_reply words told o p h l = answered_once words (held told) o p h l
