-- What contracts see of a core. It is this project's own.
use Rattle.std.specs.Prelude.{List}
use Rattle.ix_model.specs.Expansion.Parts.{Parts}
use Rattle.ix_cluster.specs.Seen.{Bank}
use Rattle.ix_closure.specs.declared.owed.Owed.{Owed}

-- the banks, and the steps that are owed, in the order in which they came to be owed
pub record State : Type 0 where
  pub banks : List Bank
  pub owed : List Owed

-- the plan, and how far its closure is
pub record Core : Type 0 where
  pub plan : Parts
  pub state : State
