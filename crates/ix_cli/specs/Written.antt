-- How it was written what goes to the output.
-- Source: this project's own.
use Rattle.std.specs.Prelude.{◌≡◌, ◌⊎◌, ℕ, List, Option, take}
use Rattle.std.specs.Io.KnownBytes.{Appends, Keeps}
use Rattle.ix_edge.specs.Causes.{Rose}
use Rattle.ix_cli.specs.declared.output.Output.{Output}
use Rattle.ix_cli.specs.Contents.{HasBytes}
use Rattle.ix_cli.specs.Lines.{write_line, memory_line}
use Rattle.ix_cli.specs.Says.{Says}

-- whole; or cut off by a fault of the output; or not at all, for want of memory
abbrev pub IsWritten : (out_old out_new : Option (List ℕ)) (out_before out_now : ℕ) (msg_old msg_new : Option (List ℕ)) (msg_before msg_now : ℕ) → Output → ℕ → Type 0
IsWritten out_old out_new out_before out_now msg_old msg_new msg_before msg_now output status =
    ((status ≡ output.status) × ((bytes : List ℕ) → HasBytes output.content bytes → Appends out_old out_new bytes) × Keeps msg_old msg_new)
    ⊎ (((status ≡ 8) × Rose out_before out_now × ((bytes : List ℕ) → HasBytes output.content bytes → (n : ℕ) × Appends out_old out_new (take n bytes)) × Says msg_old msg_new msg_before msg_now write_line)
    ⊎ ((status ≡ 9) × Keeps out_old out_new × Says msg_old msg_new msg_before msg_now memory_line))
