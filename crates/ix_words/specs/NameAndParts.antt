-- A name, operands and values of `--workers` that words are read as.
-- Source: this project's own.
use Rattle.std.specs.Prelude.{◌≡◌, ℕ, List, ◌∷◌}
use Rattle.ix_model.specs.Answers.CommandLine.{Reads}

-- the words are the name and words that have these operands and these values
abbrev pub IsRead : (words : List (List ℕ)) (name : List ℕ) (operands values : List (List ℕ)) → Type 0
IsRead words name operands values = (others : List (List ℕ)) × (words ≡ name ∷ others) × Reads others operands values
