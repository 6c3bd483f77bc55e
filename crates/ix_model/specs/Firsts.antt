-- The first of a list that something holds of, which may depend on the place.
-- Source: plain.
use Rattle.std.specs.Prelude.{◌≡◌, ◌<◌, ℕ, List, Some, slice_get}

-- x stands at n, P holds of it there, and P holds of none that stands at an earlier place
abbrev pub IsFirstAt : {X : Type 0} → (ℕ → X → Type 0) → List X → ℕ → X → Type 0
IsFirstAt {X} P xs n x = (slice_get xs n ≡ Some x) × P n x × ((m : ℕ) (y : X) → m < n → slice_get xs m ≡ Some y → ¬ (P m y))

-- x is the first of the list that P holds of
abbrev pub IsFirstOf : {X : Type 0} → (ℕ → X → Type 0) → List X → X → Type 0
IsFirstOf P xs x = (n : ℕ) × IsFirstAt P xs n x
