-- Where a test of numbers begins and ends to be passed.
use Rattle.std.specs.Prelude.{◌≡◌, ℕ, Bool, true, false}

-- the test is passed by both bounds, and failed by the two numbers beside them
abbrev pub HasEnds : (ℕ → Bool) → (below low high above : ℕ) → Type 0
HasEnds test below low high above = (test below ≡ false) × (test low ≡ true) × (test high ≡ true) × (test above ≡ false)
