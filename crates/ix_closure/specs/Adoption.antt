-- What a core owes that takes banks over. It is this project's own.
use Rattle.std.specs.Prelude.{◌↔◌, List, Contains}
use Rattle.std.specs.List.{IsDistinct}
use Rattle.ix_model.specs.Expansion.Parts.{Parts}
use Rattle.ix_cluster.specs.Seen.{Bank}
use Rattle.ix_closure.specs.declared.owed.Owed.{Owed}
use Rattle.ix_closure.specs.Due.{IsMissing}
use Rattle.ix_closure.specs.Quantity.{same_step}
use Rattle.ix_closure.specs.Seen.{State}

-- exactly the missing steps are owed, each once
pub record OwesMissing (plan : Parts) (state : State) : Type 0 where
  pub exact : (step : Owed) → Contains state.owed step ↔ IsMissing plan state.banks step
  pub once : IsDistinct same_step state.owed

-- the banks lack no step
abbrev pub LacksNothing : Parts → List Bank → Type 0
LacksNothing plan banks = (step : Owed) → ¬ (IsMissing plan banks step)
