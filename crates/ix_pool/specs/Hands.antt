-- The hands that workers begin with: one for each, with a deck for each.
use Rattle.std.specs.Prelude.{◌≡◌, ℕ, ◌-◌, ◌<◌, Bool, true, false, List, ◌∷◌, ◌++◌, map, length, replicate, slice_index_or}
use Rattle.ix_pool.specs.declared.deque.Deque.{Deque}
use Rattle.ix_pool.specs.declared.deque.End.{End}
use Rattle.ix_pool.specs.declared.deque.End.TheVariants.{Own, Other}

-- whether it is the end of a deque at which its own worker takes
abbrev pub is_own_end : End → Bool
is_own_end (Own _) = true
is_own_end (Other _) = false

-- whether it is a worker's own deque, and no stealer
abbrev pub is_own : Deque → Bool
is_own d = is_own_end d.end

-- how many takes gave no hint
abbrev pub misses_of : Deque → ℕ
misses_of d = d.misses

-- for each of so many workers, whether it is this one
abbrev pub only : ℕ → ℕ → List Bool
only own workers = replicate own false ++ true ∷ replicate (workers - own - 1) false

-- A new hand of one of so many workers: its number, a deck for each, of which its own alone is no stealer, and no misses.
pub record IsNewHand (own workers number : ℕ) (decks : List Deque) : Type 0 where
  pub number_of : number ≡ own
  pub ends : map is_own decks ≡ only own workers
  pub misses : map misses_of decks ≡ replicate workers 0

-- one new hand for each of so many workers, in order
pub record AreNewHands {H : Type 0} (number : H → ℕ) (decks : H → List Deque) (workers : ℕ) (hands : List H) : Type 0 where
  pub count : length hands ≡ workers
  pub each : (w : ℕ) (h : H) → w < workers → IsNewHand w workers (number (slice_index_or hands w h)) (decks (slice_index_or hands w h))
