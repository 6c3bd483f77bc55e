-- Lists of logs, one for each place. A place that the list does not reach has an empty one. This project's own.
use Rattle.std.specs.Prelude.{ℕ, zero, suc, if◌then◌else◌, List, [], ◌∷◌, Bool, true, false, slice_index_or}

module _ {E : Type 0} where
  -- the log at a place
  abbrev pub log_at : List (List E) → ℕ → List E
  log_at logs place = slice_index_or logs place []

  -- the logs, with this one at the place
  abbrev pub put_at : List (List E) → ℕ → List E → List (List E)
  put_at [] zero log = log ∷ []
  put_at [] (suc place) log = [] ∷ put_at [] place log
  put_at (x ∷ xs) zero log = log ∷ xs
  put_at (x ∷ xs) (suc place) log = x ∷ put_at xs place log

  -- the first has more entries than the second
  abbrev pub is_longer : List E → List E → Bool
  is_longer [] ys = false
  is_longer (x ∷ xs) [] = true
  is_longer (x ∷ xs) (y ∷ ys) = is_longer xs ys

  -- the one that has more entries, the second where they have as many
  abbrev pub longer : List E → List E → List E
  longer xs ys = if is_longer xs ys then xs else ys

  -- at each place the longer of the two
  abbrev pub longest : List (List E) → List (List E) → List (List E)
  longest [] bs = bs
  longest (a ∷ xs) [] = a ∷ xs
  longest (a ∷ xs) (b ∷ bs) = longer a b ∷ longest xs bs
