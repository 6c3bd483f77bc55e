-- What holds whatever owed step is done next. It is this project's own.
use Rattle.std.specs.Prelude.{ℕ, ◌+◌, ◌≤◌, List, length}
use Rattle.ix_model.specs.Expansion.Parts.{Parts}
use Rattle.ix_cluster.specs.declared.fact.Fact.{Fact}
use Rattle.ix_cluster.specs.Banks.{facts_of}
use Rattle.ix_closure.specs.Closure.{IsClosure}
use Rattle.ix_closure.specs.Quantity.{weight, step_bound}
use Rattle.ix_closure.specs.Runs.{Run, IsQuiet}
use Rattle.ix_closure.specs.Seen.{State}
use Rattle.ix_closure.specs.Tidy.{IsTidy}

-- every order of steps from the first state
pub record EveryOrder (plan : Parts) (first : State) : Type 0 where
  -- goes through tidy states alone, which are balanced
  pub tidy : (choices : List ℕ) (last : State) → Run plan first choices last → IsTidy plan last
  -- ends, where nothing is owed, in the closure
  pub ends : (choices : List ℕ) (last : State) → Run plan first choices last → IsQuiet last → IsClosure plan (facts_of last.banks)
  -- is no longer, with what is owed at its end, than what is recorded there brings
  pub paid : (choices : List ℕ) (last : State) → Run plan first choices last → length choices + length last.owed ≤ weight (facts_of last.banks)
  -- and is no longer than twice the closure's descriptors and its pairs of an edge and an end of one cluster
  pub short : (choices : List ℕ) (last : State) (all : List Fact) → Run plan first choices last → IsClosure plan all → length choices ≤ step_bound all
