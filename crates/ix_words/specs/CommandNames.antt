-- Words whose first is the name of a command.
-- Source: this project's own.
use Rattle.std.specs.Prelude.{◌||◌, ℕ, Bool, false, List, [], ◌∷◌, codes}
use Rattle.std.specs.Str.{bytes_eq}

-- the first word is `parse`, `check` or `sample`
abbrev pub names_command : List (List ℕ) → Bool
names_command [] = false
names_command (word ∷ others) = bytes_eq word (codes "parse") || (bytes_eq word (codes "check") || bytes_eq word (codes "sample"))
