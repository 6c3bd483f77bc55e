-- What the walk over a grammar has made so far, and what it makes of a part of the grammar.
-- Source: this project's own.
use Rattle.std.specs.Prelude.{◌≡◌, ℕ, ◌+◌, ◌-◌, ◌<◌, ◌≤◌, List, [], ◌∷◌, ◌++◌, length, slice_get, slice_set}
use Rattle.ix_model.specs.declared.rules.Kind.TheVariants.{Named}
use Rattle.ix_model.specs.declared.rules.Flat.{Flat}
use Rattle.ix_model.specs.declared.rules.Terminal.{Terminal}
use Rattle.ix_model.specs.declared.rules.Rules.{Rules}
use Rattle.ix_model.specs.Expansion.Expanded.{Next}
use Rattle.ix_expand.specs.declared.made.Made.{Made}

-- the numbers that come next in the walk
abbrev pub next : Made → Next
next made = record { rule = made.first + length made.flats; terminal = length made.terminals; insert = length made.inserts }

-- how many numbers are taken
abbrev pub count_of : Made → ℕ
count_of made = made.first + length made.flats + length made.terminals + length made.inserts

-- with the number of the next helper taken: an empty rule stands in its place
abbrev pub begun : Made → Made
begun made = record made { flats = made.flats ++ record { kind = Named; lines = [] } ∷ [] }

-- with the helper of this number in its place
abbrev pub finished : Made → ℕ → Flat → Made
finished made number flat = record made { flats = slice_set made.flats (number - made.first) flat }

-- with one more terminal
abbrev pub with_terminal : Made → Terminal → Made
with_terminal made terminal = record made { terminals = made.terminals ++ terminal ∷ [] }

-- with one more inserted text
abbrev pub with_insert : Made → List ℕ → Made
with_insert made text = record made { inserts = made.inserts ++ text ∷ [] }

-- ys has what xs has, in the same places
pub record BeginsWith {X : Type 0} (ys xs : List X) : Type 0 where
  pub longer : length xs ≤ length ys
  pub same : (n : ℕ) → n < length xs → slice_get ys n ≡ slice_get xs n

-- what ys has behind the end of xs stands in zs, `first` places later
abbrev pub HasBehind : {X : Type 0} → ℕ → List X → List X → List X → Type 0
HasBehind first xs ys zs = (n : ℕ) → length xs ≤ n → n < length ys → slice_get zs (first + n) ≡ slice_get ys n

-- what was made later has all that was made before
pub record Extends (old new : Made) : Type 0 where
  pub first : new.first ≡ old.first
  pub flats : BeginsWith new.flats old.flats
  pub terminals : BeginsWith new.terminals old.terminals
  pub inserts : BeginsWith new.inserts old.inserts

-- what was made between the two stands in the rules, by its numbers
pub record Between (old new : Made) (rules : Rules) : Type 0 where
  pub flats : HasBehind new.first old.flats new.flats rules.flats
  pub terminals : HasBehind 0 old.terminals new.terminals rules.terminals
  pub inserts : HasBehind 0 old.inserts new.inserts rules.inserts

-- what was made before stays, and P holds of all rules in which the rest stands, and of the numbers before and after
pub record Makes (old new : Made) (P : Rules → Next → Next → Type 0) : Type 0 where
  pub extends : Extends old new
  pub becomes : (rules : Rules) → Between old new rules → P rules (next old) (next new)
