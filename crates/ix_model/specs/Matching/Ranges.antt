-- Ranges of characters: what they hold, and how a set keeps them.
use Rattle.std.specs.Prelude.{◌⊎◌, ℕ, ◌+◌, ◌<◌, ◌≤◌, List, [], ◌∷◌}
use Rattle.ix_model.specs.declared.char_set.CharRange.{CharRange}

-- some range holds c
abbrev pub IsInRanges : ℕ → List CharRange → Type 0
IsInRanges c [] = ⊥
IsInRanges c (r ∷ rs) = ((r.low ≤ c) × (c ≤ r.high)) ⊎ IsInRanges c rs

-- each range is after `last` and the one before it, with a gap between
abbrev pub AreAfter : ℕ → List CharRange → Type 0
AreAfter last [] = Unit {0}
AreAfter last (r ∷ rs) = (last + 1 < r.low) × (r.low ≤ r.high) × AreAfter r.high rs

-- each range has its low at most its high, and they are sorted with a gap between each two
abbrev pub AreApart : List CharRange → Type 0
AreApart [] = Unit {0}
AreApart (r ∷ rs) = (r.low ≤ r.high) × AreAfter r.high rs
