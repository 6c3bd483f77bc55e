-- Laws of tables: what a step tells, what it changes, and whose the entries are. It is this project's own.
use Rattle.std.specs.Prelude.{ℕ, ◌≡◌, ◌≢◌, ◌<◌, ◌≤◌, ◌⊎◌, ◌↔◌, List, [], length, Contains, Some, slice_get, slice_index_or}
use Rattle.ix_model.specs.Expansion.Parts.{Parts}
use Rattle.ix_cluster.specs.BankSteps.{Call, Answer}
use Rattle.ix_cluster.specs.Seen.{Bank}
use Rattle.ix_cluster.specs.Sound.{AreSound}
use Rattle.ix_rows.specs.Logs.{log_at}
use Rattle.ix_rows.specs.Numbers.{times}
use Rattle.ix_table.specs.Answers.{Tells}
use Rattle.ix_table.specs.Calls.{place_for}
use Rattle.ix_table.specs.Sights.{Sight}
use Rattle.ix_table.specs.TableSteps.{IsStep}
use Rattle.ix_table.specs.Tables.{IsClosed, lengths_of, logs_of}

-- what an answer tells follows from the step
abbrev pub StepsTell : Type 0
StepsTell = (plan : Parts) (old : Sight) (call : Call) (answer : Answer) (new : Sight) → IsStep plan old call answer new → Tells plan old call answer new

-- at the home of the call the log that was left is known, and at each other place what was known before. The entries that
-- came are own, besides those that were
abbrev pub StepsChangeOnePlace : Type 0
StepsChangeOnePlace =
    (plan : Parts) (old : Sight) (call : Call) (answer : Answer) (new : Sight) (step : IsStep plan old call answer new) → (log_at new.known (place_for plan call) ≡ step.left.log)
    × ((m : ℕ) → m ≢ place_for plan call → log_at new.known m ≡ log_at old.known m)
    × ((m k : ℕ) → Contains new.own (m, k) ↔ (Contains old.own (m, k) ⊎ ((m ≡ place_for plan call) × (length step.met.log ≤ k) × (k < length step.left.log))))

-- of a table that was closed each entry that came since the beginning is one of the root's own, and is so once
abbrev pub EntriesAreOwnOnce : Type 0
EntriesAreOwnOnce =
    (plan : Parts) (begun : List ℕ) (root : Sight) (banks : List Bank) (m k : ℕ) (bank : Bank) → IsClosed plan begun root banks → slice_get banks m ≡ Some bank → slice_index_or begun m 0 ≤ k → k < length bank.log → times m k root.own ≡ 1

-- a table that is closed as it began has the banks that it began with
abbrev pub BeginningCloses : Type 0
BeginningCloses = (plan : Parts) (banks : List Bank) → AreSound plan banks → length banks ≡ 64 → IsClosed plan (lengths_of banks) (record { known = logs_of banks; own = [] }) banks
