-- What a clause says of a value that was taken. This project's own.
use Rattle.std.specs.Prelude.{ℕ}
use Rattle.ix_rows.specs.declared.held.Held.{Held}

module _ {K T X E : Type 0} where
  -- the place that it was taken from
  abbrev pub held_place : Held K T X E → ℕ
  held_place held = held.place

  -- the value as it is now
  abbrev pub held_value : Held K T X E → X
  held_value held = held.value
