-- What a put does to the bytes that a sink tells.
use Rattle.std.specs.Prelude.{ℕ, List, Option, Result, take, MatchResult}
use Rattle.std.specs.Io.KnownBytes.{Appends}

-- at Ok all the bytes were appended, and at an Err some of them, from the front on, or none
abbrev pub Puts : {T E : Type 0} → Option (List ℕ) → Option (List ℕ) → List ℕ → Result T E → Type 0
Puts old new bytes result = MatchResult result (λ _. Appends old new bytes) (λ _. (n : ℕ) × Appends old new (take n bytes))
