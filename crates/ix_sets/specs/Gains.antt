-- What numbers a list of ranges holds once more ranges are added.
-- Source: this project's own.
use Rattle.std.specs.Prelude.{◌↔◌, ◌⊎◌, ℕ, ◌≤◌, List, IsTrue}
use Rattle.regex_class.specs.Ranges.{Range, in_ranges}

-- up to the greatest character, the new ranges hold what the old ones hold and what P is true of, and nothing else
pub record Gains (old new : List Range) (P : ℕ → Type 0) : Type 0 where
  pub held : (c : ℕ) → c ≤ 0x10_FFFF → IsTrue (in_ranges new c) ↔ (IsTrue (in_ranges old c) ⊎ P c)
