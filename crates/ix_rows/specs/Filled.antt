-- Slots that values fill. This project's own.
use Rattle.std.specs.Prelude.{◌≡◌, ℕ, ◌<◌, List, length, map, Option, Some}
use mathlib.Core.Option.{some}
use lib.ListN.{get_elem?}

module _ {X : Type 0} where
  -- the slots have exactly these values, in order
  abbrev pub AllSome : List (Option X) → List X → Type 0
  AllSome slots values = slots ≡ map Some values

  -- each slot has a value
  abbrev pub IsAllSome : List (Option X) → Type 0
  IsAllSome slots = (place : ℕ) → place < length slots → (value : X) × (get_elem? slots place ≡ some (Some value))
