-- What holds of each core. It is this project's own.
use Rattle.std.specs.Prelude.{Contains}
use Rattle.ix_model.specs.Expansion.Parts.{Parts}
use Rattle.ix_cluster.specs.Sound.{AreSound}
use Rattle.ix_closure.specs.declared.owed.Owed.{Owed}
use Rattle.ix_closure.specs.Due.{FollowsIn, IsMissing}
use Rattle.ix_closure.specs.Seen.{State}

-- the banks are sound, no missing step is forgotten, and none is owed without a cause
pub record IsBalanced (plan : Parts) (state : State) : Type 0 where
  pub sound : AreSound plan state.banks
  pub missing : (step : Owed) → IsMissing plan state.banks step → Contains state.owed step
  pub caused : (step : Owed) → Contains state.owed step → FollowsIn plan state.banks step
