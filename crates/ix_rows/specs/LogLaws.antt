-- Laws of beginnings, of logs at places and of numbers of entries. This project's own.
use Rattle.std.specs.Prelude.{◌≡◌, ◌≢◌, ◌⊎◌, ℕ, ◌+◌, ◌<◌, ◌≤◌, List}
use Rattle.ix_rows.specs.Beginnings.{Begins}
use Rattle.ix_rows.specs.Logs.{log_at, put_at, longest}
use Rattle.ix_rows.specs.Numbers.{run, times}

-- a run has each of its numbers once, and no other, and none under another place
abbrev pub RunHasEachOnce : Type 0
RunHasEachOnce = (place number first count : ℕ) →
    (first ≤ number → number < first + count → times place number (run place first count) ≡ 1)
    × ((number < first) ⊎ (first + count ≤ number) → times place number (run place first count) ≡ 0)
    × ((other : ℕ) → other ≢ place → times other number (run place first count) ≡ 0)

module _ (E : Type 0) where
  -- the log that was put is there, and the others are as before
  abbrev pub PutIsThere : Type 0
  PutIsThere = (logs : List (List E)) (place : ℕ) (log : List E) → (log_at (put_at logs place log) place ≡ log) × ((other : ℕ) → other ≢ place → log_at (put_at logs place log) other ≡ log_at logs other)

  -- of beginnings of the same logs, the longest begin with both, and are beginnings of them
  abbrev pub LongestBegin : Type 0
  LongestBegin = (all : ℕ → List E) (a b : List (List E)) → ((m : ℕ) → Begins (all m) (log_at a m) × Begins (all m) (log_at b m))
      → (m : ℕ) → Begins (log_at (longest a b) m) (log_at a m) × Begins (log_at (longest a b) m) (log_at b m) × Begins (all m) (log_at (longest a b) m)
