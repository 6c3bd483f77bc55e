-- How it is answered what was found for the words.
-- Source: this project's own.
use Rattle.std.specs.Prelude.{◌≡◌, ℕ, List, Option, String, Result, Ok, Err, string_bytes}
use Rattle.std.specs.declared.alloc.Global.{Global}
use Rattle.ix_cli.specs.declared.answer.Answer.{Answer}
use Rattle.ix_cli.specs.declared.answer.Answer.TheVariants as answer
use Rattle.ix_cli.specs.declared.output.Output.{Output}
use Rattle.ix_cli.specs.Lines.{read_line}
use Rattle.ix_cli.specs.Says.{Says, Refuses}
use Rattle.ix_cli.specs.Written.{IsWritten}

-- An output was written. All else has left the output as it was, and its line was said with its status, or that of want of memory;
-- status 7 names a file.
abbrev pub IsDelivered : (out_old out_new : Option (List ℕ)) (out_before out_now : ℕ) (msg_old msg_new : Option (List ℕ)) (msg_before msg_now : ℕ) → Result Output Answer → ℕ → Type 0
IsDelivered out_old out_new out_before out_now msg_old msg_new msg_before msg_now (Ok output) status = IsWritten out_old out_new out_before out_now msg_old msg_new msg_before msg_now output status
IsDelivered out_old out_new out_before out_now msg_old msg_new msg_before msg_now (Err a) status =
    (out_new ≡ out_old) × Refuses msg_old msg_new msg_before msg_now a status
    × (status ≡ 7 → (name : String Global) × (a ≡ answer.Read name) × Says msg_old msg_new msg_before msg_now (read_line (string_bytes name)))
