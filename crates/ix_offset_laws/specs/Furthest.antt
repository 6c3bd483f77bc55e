-- How far the descriptors of a closure come. It is this project's own.
use Rattle.std.specs.Prelude.{◌≡◌, ◌⊎◌, ℕ, ◌≤◌}
use Rattle.ix_model.specs.Expansion.Parts.{Parts}
use Rattle.ix_model.specs.Closure.Closed.{Desc}

module _ (plan : Parts) where
  -- some descriptor of the closure has its dot at p
  abbrev pub HasDotAt : ℕ → Type 0
  HasDotAt p = (s : ℕ) × (l : ℕ) × Desc plan s l p

  -- the greatest position where a descriptor has its dot, or 0 where there is no descriptor
  abbrev pub Furthest : ℕ → Type 0
  Furthest o = (HasDotAt o ⊎ (o ≡ 0)) × ((p : ℕ) → HasDotAt p → p ≤ o)
