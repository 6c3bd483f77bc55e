-- A small row for the worked examples: its values are lists of numbers, each its own log. This project's own.
use Rattle.std.specs.Prelude.{ℕ, ◌≤◌, List, [], ◌∷◌, length, Option, Some}
use mathlib.Core.Option.{none}
use Rattle.atomic_table.specs.Table.{State, Me, Step, step, opening}
use Rattle.ix_rows.specs.declared.view.View.{View}
use Rattle.ix_rows.specs.Views.{root_view, right_of, holding}

-- a list has no more entries than the topic says, at each place
abbrev pub is_short : ℕ → ℕ → List ℕ → Type 0
is_short topic place value = length value ≤ topic

-- a list is its own log
abbrev pub its_log : List ℕ → List ℕ
its_log value = value

-- the logs of two values: 7, and nothing
abbrev pub two_logs : List (List ℕ)
two_logs = (7 ∷ []) ∷ [] ∷ []

-- the root of a row of the two
abbrev pub small_root : View ℕ ℕ
small_root = root_view 3 two_logs

-- the seat of a pass that was split off and holds nothing
abbrev pub idle : Me (Option (List ℕ)) (View ℕ ℕ)
idle = (right_of small_root, [])

-- the same, once it has taken the value 7 and 8 at place 0
abbrev pub busy : Me (Option (List ℕ)) (View ℕ ℕ)
busy = (holding (right_of small_root) 0 (7 ∷ 8 ∷ []), (0, Some (7 ∷ 8 ∷ [])) ∷ [])

-- a step on the word of place 0
abbrev pub at_first : Step (Option (List ℕ))
at_first = step 2 0 0 0 none

-- the row of the two, as it is made
abbrev pub small_row : State (Option (List ℕ)) (View ℕ ℕ)
small_row = opening (1 ∷ 1 ∷ []) (Some (7 ∷ []) ∷ Some [] ∷ []) small_root
