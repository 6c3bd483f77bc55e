-- What comes of words before anything goes to the output.
-- Source: this project's own.
use Rattle.std.specs.Prelude.{◌≡◌, ◌⊎◌, ℕ, List, Option, Result, IfOk, IfErr, IfSome}
use Rattle.ix_model.specs.Answers.CommandLine.{sample, IsCommand}
use Rattle.ix_edge.specs.Told.{Told}
use Rattle.ix_cli.specs.declared.answer.Answer.{Answer}
use Rattle.ix_cli.specs.declared.output.Output.{Output}
use Rattle.ix_cli.specs.Named.{HasCommand}
use Rattle.ix_cli.specs.Refused.{IsRefused}
use Rattle.ix_cli.specs.Sampled.{IsSampled}
use Rattle.ix_cli.specs.Shown.{ShowsReply}

-- words with a command may have an output, which is the table's; all else has its cause, and figures are never refused
pub record IsReplied (words : List (List ℕ)) (told : Option Told) (old new : List ℕ → ℕ) (result : Result Output Answer) : Type 0 where
  pub form : IfOk result (λ output. HasCommand words)
  pub status : IfOk result (λ output. (output.status ≡ 0) ⊎ (output.status ≡ 1))
  pub ok : IfOk result (λ output. IfSome told (λ files. ShowsReply words files output))
  pub err : IfErr result (IsRefused words told old new)
  pub sampled : (lines workers : ℕ) → IsCommand words (sample lines workers) → IsSampled result
