-- In which order a hand asks its decks, and what that leaves.
use Rattle.std.specs.Prelude.{◌≡◌, ◌≢◌, ◌⊎◌, ℕ, ◌<◌, List, length, slice_index_or, Option, MatchOption}
use Rattle.ix_pool.specs.Counts.{one_more}

-- the deck of worker a is asked before that of b: the hand's own comes first, then the others in ascending order
abbrev pub AskedBefore : ℕ → ℕ → ℕ → Type 0
AskedBefore own a b = (b ≢ own) × ((a ≡ own) ⊎ (a < b))

module _ {D : Type 0} (count : D → ℕ) (before now : List D) where
  -- this worker's deck has missed once
  abbrev pub Missed : ℕ → Type 0
  Missed w = (d : D) → w < length before → count (slice_index_or now w d) ≡ one_more (count (slice_index_or before w d))

  -- this worker's deck has the same count
  abbrev pub SameCount : ℕ → Type 0
  SameCount w = (d : D) → w < length before → count (slice_index_or now w d) ≡ count (slice_index_or before w d)

-- this worker's deck is as before
abbrev pub Untouched : {D : Type 0} → List D → List D → ℕ → Type 0
Untouched {D} before now w = (d : D) → w < length before → slice_index_or now w d ≡ slice_index_or before w d

-- This worker's deck gave the hint: those that are asked before it have missed once each, its own count is the same, and those
-- that come after it were not asked.
pub record GaveAt {D : Type 0} (count : D → ℕ) (own : ℕ) (before now : List D) (w : ℕ) : Type 0 where
  pub within : w < length before
  pub missed : (a : ℕ) → AskedBefore own a w → Missed count before now a
  pub same : SameCount count before now w
  pub untouched : (b : ℕ) → AskedBefore own w b → Untouched before now b

-- Each deck is asked at most once, in order, until one gives a hint. Where none gave one, all have missed once each.
abbrev pub AsksInOrder : {A D : Type 0} → (D → ℕ) → ℕ → Option A → List D → List D → Type 0
AsksInOrder count own result before now =
    MatchOption result ((w : ℕ) → Missed count before now w) (λ _. (w : ℕ) × GaveAt count own before now w)

-- the same without its own deck, which is not asked
abbrev pub AsksOthers : {A D : Type 0} → (D → ℕ) → ℕ → Option A → List D → List D → Type 0
AsksOthers count own result before now =
    MatchOption result
    ((w : ℕ) → w ≢ own → Missed count before now w)
    (λ _. (w : ℕ) × (w ≢ own) × (w < length before)
    × ((a : ℕ) → a ≢ own → a < w → Missed count before now a)
    × SameCount count before now w
    × ((b : ℕ) → w < b → Untouched before now b))
