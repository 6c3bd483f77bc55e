-- What a pass knows of the banks' logs, and which entries are its own. It is this project's own.
use Rattle.std.specs.Prelude.{ℕ, List, ◌++◌, ◌-◌, length}
use Rattle.ix_model.specs.Expansion.Parts.{Parts}
use Rattle.ix_cluster.specs.declared.fact.Fact.{Fact}
use Rattle.ix_cluster.specs.Seen.{Bank}
use Rattle.ix_rows.specs.Passes.{Pass}
use Rattle.ix_rows.specs.Logs.{put_at}
use Rattle.ix_rows.specs.Numbers.{run}

pub record Sight : Type 0 where
  -- the log that is known at each place
  pub known : List (List Fact)
  -- the place and the number of each entry that came by the pass
  pub own : List (ℕ × ℕ)

-- of a pass of a row of banks
abbrev pub sight_of : Pass Bank Parts Fact → Sight
sight_of pass = record { known = pass.me.0.known; own = pass.me.0.own }

-- the log at the place was the first and is now the second: it is known, and what was appended is own
abbrev pub seen_after : Sight → ℕ → List Fact → List Fact → Sight
seen_after sight m old new = record { known = put_at sight.known m new; own = sight.own ++ run m (length old) (length new - length old) }
