-- How many things of a kind there are. It is this project's own.
use Rattle.std.specs.Prelude.{◌≡◌, ℕ, List, length, Some, slice_get}

-- the list has exactly the things of the kind, each once
pub record Lists {A : Type 0} (P : A → Type 0) (xs : List A) : Type 0 where
  -- what it has is of the kind
  pub sound : (n : ℕ) (x : A) → slice_get xs n ≡ Some x → P x
  -- whatever is of the kind stands in it
  pub whole : (x : A) → P x → (n : ℕ) × (slice_get xs n ≡ Some x)
  -- no two places of it have the same
  pub once : (m n : ℕ) (x : A) → slice_get xs m ≡ Some x → slice_get xs n ≡ Some x → m ≡ n

-- there are so many things of the kind
abbrev pub HasCount : {A : Type 0} (P : A → Type 0) (n : ℕ) → Type 0
HasCount {A} P n = (xs : List A) × Lists P xs × (n ≡ length xs)
