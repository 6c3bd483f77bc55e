-- Steps of which each is the last that is owed. It is this project's own.
use Rattle.std.specs.Prelude.{◌≡◌, ℕ, ◌+◌, List, [], ◌∷◌, ◌++◌, length}
use Rattle.ix_model.specs.Expansion.Parts.{Parts}
use Rattle.ix_closure.specs.Events.{Event}
use Rattle.ix_closure.specs.Seen.{State}

module _ (plan : Parts) (first : State) where
  -- from the first state the steps that the list chooses, each the last of those that are then owed, lead to the last state
  pub data LastRun : List ℕ → State → Type 0 where
    stays : LastRun [] first
    does_last : (choices : List ℕ) (n : ℕ) (before after : State) → LastRun choices before → n + 1 ≡ length before.owed → Event plan before n after → LastRun (choices ++ n ∷ []) after

-- last steps alone lead from the first state to the last
abbrev pub IsReachedByLast : Parts → State → State → Type 0
IsReachedByLast plan first last = (choices : List ℕ) × LastRun plan first choices last
