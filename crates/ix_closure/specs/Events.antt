-- One owed step. It is this project's own.
use Rattle.std.specs.Prelude.{◌≡◌, ℕ, ◌+◌, ◌<◌, List, ◌++◌, length, remove, Some, slice_get, slice_set}
use Rattle.ix_model.specs.Expansion.Parts.{Parts}
use Rattle.ix_cluster.specs.declared.limits.TheConstants.{FACT_LIMIT}
use Rattle.ix_cluster.specs.declared.fact.Fact.{Fact}
use Rattle.ix_cluster.specs.BankSteps.{Call, AddEdge, AddEnd, MakeClaim}
use Rattle.ix_cluster.specs.BankSteps as call
use Rattle.ix_cluster.specs.Homes.{home_of}
use Rattle.ix_cluster.specs.Room.{unclaimed_in}
use Rattle.ix_cluster.specs.Seen.{Bank}
use Rattle.ix_cluster.specs.StepAnswers.{after_step}
use Rattle.ix_cluster.specs.Steps.{edge_answer, end_answer}
use Rattle.ix_closure.specs.declared.owed.Owed.{Owed}
use Rattle.ix_closure.specs.declared.owed.Owed.TheVariants.{Claim, Edge, End, Arrive}
use Rattle.ix_closure.specs.Follows.{fact_of, Follows}
use Rattle.ix_closure.specs.Seen.{State}

-- the call that does the step
abbrev pub call_of : Owed → Call
call_of (Claim s l p) = MakeClaim s l p
call_of (Edge r k s l) = AddEdge r k s l
call_of (End r k e) = AddEnd r k e
call_of (Arrive sub) = call.Arrive sub

-- the log of the step's bank after the step
abbrev pub log_after : Parts → List Fact → Owed → List Fact
log_after plan log step = after_step plan log (call_of step)

-- how many pairs of an edge and an end the step hands out
abbrev pub handed_by : List Fact → Owed → ℕ
handed_by log (Edge r k s l) = length (edge_answer log r k s l)
handed_by log (End r k e) = length (end_answer log r k e)
handed_by log (Claim s l p) = 0
handed_by log (Arrive sub) = 0

-- the step's bank after the step
abbrev pub bank_after : Parts → Bank → Owed → Bank
bank_after plan bank step = record { log = log_after plan bank.log step; handed = bank.handed + handed_by bank.log step }

-- the bank, of so many, that does the step: the home of the fact that is to be recorded
abbrev pub home_for : Parts → ℕ → Owed → ℕ
home_for plan count step = home_of plan count (fact_of step)

-- the n-th owed step was taken out and done on its bank, and what follows from it is owed behind the others
pub record Event (plan : Parts) (old : State) (n : ℕ) (new : State) : Type 0 where
  pub step : Owed
  pub taken : slice_get old.owed n ≡ Some step
  pub bank : Bank
  pub there : slice_get old.banks (home_for plan (length old.banks) step) ≡ Some bank
  pub done : new.banks ≡ slice_set old.banks (home_for plan (length old.banks) step) (bank_after plan bank step)
  pub more : List Owed
  pub follows : Follows plan bank.log step more
  pub owed : new.owed ≡ remove old.owed n ++ more
  -- a step for whose facts no machine has memory is none
  pub bounded : length (log_after plan bank.log step) + unclaimed_in (log_after plan bank.log step) < FACT_LIMIT
