-- No work is lost: what follows from the entries that a worker answers for is owed by it, or recorded to its knowledge. It is
-- this project's own.
use Rattle.std.specs.Prelude.{◌≡◌, ◌⊎◌, ℕ, ◌<◌, length, take, Contains, Some, slice_get}
use Rattle.ix_model.specs.Expansion.Parts.{Parts}
use Rattle.ix_cluster.specs.declared.fact.Fact.{Fact}
use Rattle.ix_closure.specs.declared.owed.Owed.{Owed}
use Rattle.ix_closure.specs.Follows.{fact_of}
use Rattle.ix_rows.specs.Logs.{log_at}
use Rattle.ix_settled_laws.specs.Brought.{IsBrought}
use Rattle.ix_settled_laws.specs.Workers.{Worker, Answers, IsKnown}

-- the entries that a worker answers for are among those that its pass knows
abbrev pub Inside : Worker → Type 0
Inside w = (m k : ℕ) → Answers w m k → k < length (log_at w.sight.known m)

-- each step that they bring is owed, or what it is to record is known
abbrev pub Covered : Parts → Worker → Type 0
Covered plan w =
    (m k : ℕ) (f : Fact) (step : Owed) → Answers w m k → slice_get (log_at w.sight.known m) k ≡ Some f → IsBrought plan (take k (log_at w.sight.known m)) f step → Contains w.owed step ⊎ IsKnown w.sight (fact_of step)
