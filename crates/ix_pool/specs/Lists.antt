-- A deck that is a list in memory.
use Rattle.std.specs.Prelude.{ℕ, List, [], ◌∷◌, Option, Some, None}
use Rattle.ix_pool.specs.declared.hint.Hint.{Hint}
use Rattle.ix_pool.specs.declared.list_deck.ListDeck.{ListDeck}

-- its hints, the front first
abbrev pub hints_of : ListDeck → List Hint
hints_of d = d.hints.items

-- how many takes gave no hint
abbrev pub misses_of_list : ListDeck → ℕ
misses_of_list d = d.misses

-- the hint at the front, if there is one
abbrev pub first_of : List Hint → Option Hint
first_of [] = None
first_of (h ∷ _) = Some h

-- the hints behind the first
abbrev pub rest_of : List Hint → List Hint
rest_of [] = []
rest_of (_ ∷ hs) = hs
