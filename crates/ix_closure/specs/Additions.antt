-- How a list grows by items of which each stands in it once. It is this project's own.
use Rattle.std.specs.Prelude.{◌≡◌, ◌⊎◌, ◌<◌, ℕ, Bool, List, Contains, Some, slice_get}
use Rattle.std.specs.List.{IsDistinct}

-- the new list has the old items and these, and none twice where the old one has none twice
pub record Adds {X : Type 0} (same : X → X → Bool) (Items : X → Type 0) (old new : List X) : Type 0 where
  pub kept : (x : X) → Contains old x → Contains new x
  pub all : (x : X) → Items x → Contains new x
  pub from : (x : X) → Contains new x → Contains old x ⊎ Items x
  pub once : IsDistinct same old → IsDistinct same new

module _ {A X : Type 0} where
  -- one of the list brings the item
  abbrev pub IsOfSome : List A → (A → X → Type 0) → X → Type 0
  IsOfSome list Items x = (a : A) × Contains list a × Items a x

  -- one of the first n of the list brings the item
  abbrev pub IsOfFirst : List A → (A → X → Type 0) → ℕ → X → Type 0
  IsOfFirst list Items n x = (k : ℕ) × (a : A) × (k < n) × (slice_get list k ≡ Some a) × Items a x
