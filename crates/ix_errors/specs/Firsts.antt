-- The answers of searches: the first of a list that is not as it should be, and the first rule with a name of an earlier one.
-- Source: this project's own.
use Rattle.std.specs.Prelude.{◌≡◌, ◌<◌, ℕ, List, Option, Some, None, slice_get}
use Rattle.std.specs.List.{AllByRecursion}
use Rattle.ix_model.specs.Firsts.{IsFirstOf}

-- some x is the first of the list that P does not hold of, and none comes where P holds of all
abbrev pub IsSearchFor : {X : Type 0} → (X → Type 0) → List X → Option X → Type 0
IsSearchFor P xs None = AllByRecursion P xs
IsSearchFor P xs (Some x) = IsFirstOf (λ n y. ¬ (P y)) xs x

-- the name stands among the names
abbrev pub IsAmong : List (List ℕ) → List ℕ → Type 0
IsAmong names name = (r : ℕ) × (slice_get names r ≡ Some name)

-- the name stands at r, and at an earlier place
abbrev pub IsRepeatedAt : List (List ℕ) → ℕ → List ℕ → Type 0
IsRepeatedAt names r name = (slice_get names r ≡ Some name) × (q : ℕ) × (q < r) × (slice_get names q ≡ Some name)

-- no name that stands before the place is repeated there
abbrev pub NoneRepeatedBelow : List (List ℕ) → ℕ → Type 0
NoneRepeatedBelow names r = (p : ℕ) (other : List ℕ) → p < r → ¬ (IsRepeatedAt names p other)

-- some name is the first that is repeated, and none comes where none is
abbrev pub IsSearchForRepeated : List (List ℕ) → Option (List ℕ) → Type 0
IsSearchForRepeated names None = (p : ℕ) (other : List ℕ) → ¬ (IsRepeatedAt names p other)
IsSearchForRepeated names (Some name) = (r : ℕ) × IsRepeatedAt names r name × NoneRepeatedBelow names r
