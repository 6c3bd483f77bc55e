-- Steps in any order. It is this project's own.
use Rattle.std.specs.Prelude.{◌≡◌, ℕ, List, [], ◌∷◌, ◌++◌}
use Rattle.ix_model.specs.Expansion.Parts.{Parts}
use Rattle.ix_closure.specs.Events.{Event}
use Rattle.ix_closure.specs.Seen.{State}

module _ (plan : Parts) (first : State) where
  -- from the first state the steps that the list chooses, each among those that are then owed, lead to the last state
  pub data Run : List ℕ → State → Type 0 where
    rests : Run [] first
    goes_on : (choices : List ℕ) (n : ℕ) (before after : State) → Run choices before → Event plan before n after → Run (choices ++ n ∷ []) after

-- some choice of steps leads from the first state to the last
abbrev pub IsReached : Parts → State → State → Type 0
IsReached plan first last = (choices : List ℕ) × Run plan first choices last

-- nothing is owed
abbrev pub IsQuiet : State → Type 0
IsQuiet state = state.owed ≡ []
