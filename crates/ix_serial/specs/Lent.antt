-- What goes through a lent buffer.
-- Source: this project's own.
use Rattle.std.specs.Prelude.{◌≡◌, ℕ, List, ◌++◌, take, Option, Result, MatchResult}
use Rattle.std.specs.Io.KnownBytes.{Appends}

-- Bytes come behind those that wait: the first of all these went out, and the others are left.
abbrev pub Goes : (old new : Option (List ℕ)) (waiting bytes left : List ℕ) → Type 0
Goes old new waiting bytes left = (sent : List ℕ) × Appends old new sent × (waiting ++ bytes ≡ sent ++ left)

-- Bytes come behind those that wait: some of all these went out, from the front on, or none.
abbrev pub Stops : (old new : Option (List ℕ)) (waiting bytes : List ℕ) → Type 0
Stops old new waiting bytes = (n : ℕ) × Appends old new (take n (waiting ++ bytes))

-- At Ok as many are left as are told, at the front of the buffer; an Err stops.
abbrev pub Passes : {E : Type 0} (old new : Option (List ℕ)) (waiting buffer bytes : List ℕ) → Result ℕ E → Type 0
Passes old new waiting buffer bytes result = MatchResult result (λ filled. Goes old new waiting bytes (take filled buffer)) (λ _. Stops old new waiting bytes)
