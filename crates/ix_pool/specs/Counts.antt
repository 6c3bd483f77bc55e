-- How a deck counts its misses: the takes that gave no hint.
use Rattle.std.specs.Prelude.{ℕ, ◌+◌, ◌-◌, ◌^◌, min, Option, Some, None}

-- one more than the count; a count stays at the last u64
abbrev pub one_more : ℕ → ℕ
one_more n = min (n + 1) (2 ^ 64 - 1)

-- the count after a take with this result: one more where there was no hint, and else the same
abbrev pub count_after : {A : Type 0} → Option A → ℕ → ℕ
count_after None n = one_more n
count_after (Some _) n = n
