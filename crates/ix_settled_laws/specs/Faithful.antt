-- What holds of each worker between two steps. It is this project's own.
use Rattle.std.specs.Prelude.{◌≡◌, ℕ, List}
use Rattle.ix_model.specs.Expansion.Parts.{Parts}
use Rattle.ix_cluster.specs.declared.fact.Fact.{Fact}
use Rattle.ix_cluster.specs.Homes.{home_of}
use Rattle.ix_closure.specs.declared.owed.Owed.{Owed}
use Rattle.ix_table.specs.Answers.{Knows}
use Rattle.ix_table.specs.Sights.{Sight}
use Rattle.ix_settled_laws.specs.Covered.{Inside, Covered}
use Rattle.ix_settled_laws.specs.Owing.{OwesClosed}
use Rattle.ix_settled_laws.specs.Workers.{Worker}

-- each fact that is known at a place has it as its home, among so many
abbrev pub AtHome : Parts → ℕ → Sight → Type 0
AtHome plan count sight = (m : ℕ) (f : Fact) → Knows sight m f → home_of plan count f ≡ m

-- of a worker over so many banks
pub record IsFaithful (plan : Parts) (count : ℕ) (w : Worker) : Type 0 where
  pub inside : Inside w
  pub covered : Covered plan w
  pub at_home : AtHome plan count w.sight
  pub closed : OwesClosed plan w.owed

-- where the worker was faithful that had the first sight and list, over the 64 banks of a table, it still is with the last
abbrev pub KeepsFaith : Parts → Sight → List Owed → Sight → List Owed → Type 0
KeepsFaith plan first firsts last lasts =
    (begun : List ℕ) → IsFaithful plan 64 (record { begun = begun; sight = first; owed = firsts }) → IsFaithful plan 64 (record { begun = begun; sight = last; owed = lasts })
