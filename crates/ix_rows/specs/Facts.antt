-- The fact of values at places. This project's own.
use Rattle.std.specs.Prelude.{◌≡◌, ℕ, List, Option, Some}
use mathlib.Core.Option.{some}
use lib.ListN.{get_elem?}

module _ {T X : Type 0} (fact : T → ℕ → X → Type 0) where
  -- the fact holds of each value, at the place of its number
  abbrev pub AllKept : T → List X → Type 0
  AllKept topic values = (place : ℕ) (value : X) → get_elem? values place ≡ some value → fact topic place value

  -- a topic is named, and for it the fact holds of each
  abbrev pub AllKeptFor : Option T → List X → Type 0
  AllKeptFor named values = (topic : T) × (named ≡ Some topic) × AllKept topic values

  -- a topic is named, and for it the fact holds of the value at the place
  abbrev pub FactOf : Option T → ℕ → X → Type 0
  FactOf named place value = (topic : T) × (named ≡ Some topic) × fact topic place value
