-- Passes of a table, how it begins, and what is left of it. It is this project's own.
use Rattle.std.specs.Prelude.{◌≡◌, ◌-◌, ℕ, List, [], map, length, slice_index_or, Some, slice_get}
use Rattle.ix_model.specs.Expansion.Parts.{Parts}
use Rattle.ix_cluster.specs.declared.fact.Fact.{Fact}
use Rattle.ix_cluster.specs.Banks.{opening}
use Rattle.ix_cluster.specs.Seen.{Bank}
use Rattle.ix_cluster.specs.Sound.{AreSound}
use Rattle.ix_rows.specs.Passes.{Pass, IsRoot, IsWhole, HoldsNone, Names}
use Rattle.ix_rows.specs.Places.{IsPassOf, row_places}
use Rattle.ix_rows.specs.Beginnings.{Begins}
use Rattle.ix_rows.specs.Logs.{log_at}
use Rattle.ix_rows.specs.Numbers.{run, times}
use Rattle.ix_table.specs.declared.table.Table.{Table}
use Rattle.ix_table.specs.Sights.{Sight, sight_of}

-- a pass of the table, which has 64 places; it names the table's plan and holds nothing
abbrev pub PassFits : Table → Pass Bank Parts Fact → Type 0
PassFits t p = IsPassOf t.row p × HoldsNone p × Names p t.plan.now × (row_places t.row ≡ 64)

-- the logs of some banks, and their lengths
abbrev pub logs_of : List Bank → List (List Fact)
logs_of banks = map (λ (bank : Bank). bank.log) banks

abbrev pub lengths_of : List Bank → List ℕ
lengths_of banks = map (λ (bank : Bank). length bank.log) banks

-- the root of a table that begins: no other pass is out, it knows how each of the plan's banks begins, and no entry is its own
pub record IsBegun (plan : Parts) (p : Pass Bank Parts Fact) : Type 0 where
  pub root : IsRoot p
  pub whole : IsWhole p
  pub begun : p.me.0.begun ≡ lengths_of (opening plan 64)
  pub sight : sight_of p ≡ record { known = logs_of (opening plan 64); own = [] }
  pub sound : AreSound plan (opening plan 64)

-- the banks of a table that was closed with this root, where the logs had these lengths as it began
pub record IsClosed (plan : Parts) (begun : List ℕ) (root : Sight) (banks : List Bank) : Type 0 where
  pub many : length banks ≡ 64
  pub sound : AreSound plan banks
  -- each log begins with what the root knows
  pub begin : (m : ℕ) (bank : Bank) → slice_get banks m ≡ Some bank → Begins bank.log (log_at root.known m)
  -- and the root's own entries there are those that came since the beginning, each once
  pub counted : (m k : ℕ) (bank : Bank) → slice_get banks m ≡ Some bank → times m k root.own ≡ times m k (run m (slice_index_or begun m 0) (length bank.log - slice_index_or begun m 0))
