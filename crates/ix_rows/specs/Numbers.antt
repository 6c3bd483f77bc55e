-- Entries of logs, told by the place of the log and their number in it. This project's own.
use Rattle.std.specs.Prelude.{ℕ, zero, suc, ◌==◌, ◌&&◌, if◌then◌else◌, List, [], ◌∷◌}
use Rattle.ix_rows.specs.Totals.{total}

-- the given count of numbers from the first on, each with the place
abbrev pub run : ℕ → ℕ → ℕ → List (ℕ × ℕ)
run place first zero = []
run place first (suc count) = (place, first) ∷ run place (suc first) count

-- 1 where the entry is that of this number at this place, else 0
abbrev pub hits : ℕ → ℕ → ℕ × ℕ → ℕ
hits place number entry = if (entry.0 == place) && (entry.1 == number) then 1 else 0

-- how often the number stands under the place
abbrev pub times : ℕ → ℕ → List (ℕ × ℕ) → ℕ
times place number entries = total (hits place number) entries
