-- A step of a table: a bank's step at the home of the call, as the pass sees it. It is this project's own.
use Rattle.std.specs.Prelude.{◌≡◌}
use Rattle.ix_model.specs.Expansion.Parts.{Parts}
use Rattle.ix_cluster.specs.BankSteps.{Call, Answer, BankStep}
use Rattle.ix_cluster.specs.Seen.{Bank}
use Rattle.ix_cluster.specs.Sound.{IsSoundBank}
use Rattle.ix_rows.specs.Beginnings.{Begins}
use Rattle.ix_rows.specs.Logs.{log_at, put_at}
use Rattle.ix_table.specs.Calls.{place_for}
use Rattle.ix_table.specs.Sights.{Sight, seen_after}

-- the call met this bank at its home and left that one, and was answered so
pub record IsStep (plan : Parts) (old : Sight) (call : Call) (answer : Answer) (new : Sight) : Type 0 where
  pub met : Bank
  pub left : Bank
  -- the log that it met begins with what the pass knew there
  pub begins : Begins met.log (log_at old.known (place_for plan call))
  pub step : BankStep plan met.log call answer left.log
  pub sound_met : IsSoundBank plan 64 (place_for plan call) met
  pub sound_left : IsSoundBank plan 64 (place_for plan call) left
  -- the pass knows the log that was left, and has what came, and at all other places nothing changed
  pub now : new ≡ seen_after old (place_for plan call) met.log left.log

-- the call met this bank at its home, and left it as it was
pub record IsLook (plan : Parts) (old : Sight) (call : Call) (new : Sight) : Type 0 where
  pub met : Bank
  pub begins : Begins met.log (log_at old.known (place_for plan call))
  pub sound_met : IsSoundBank plan 64 (place_for plan call) met
  pub now : new ≡ record { known = put_at old.known (place_for plan call) met.log; own = old.own }
