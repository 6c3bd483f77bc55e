-- A range of a list.
use Rattle.std.specs.Prelude.{ℕ, ◌-◌, List, take, drop}

-- the elements from place low on and before place high
abbrev pub range_of : {X : Type 0} → List X → ℕ → ℕ → List X
range_of xs low high = take (high - low) (drop low xs)
