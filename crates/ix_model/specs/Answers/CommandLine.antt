-- The words after the program's name that have a form, and what they ask for. A word is the list of its bytes; the empty word is one too.
-- Source: this project's own, in the usual manner of options.
use Rattle.std.specs.Prelude.{◌≡◌, ◌≢◌, ◌⊎◌, ℕ, ◌≤◌, List, [], ◌∷◌, ◌++◌, length, codes}
use Rattle.std.specs.Str.Parse.{IsNumeral, digits_value}

-- what the words ask for
pub data Command : Type 0 where
  -- the document of the text under the grammar, made by so many workers
  parse : (grammar text : List ℕ) (workers : ℕ) → Command
  -- whether the grammar is one
  check : (grammar : List ℕ) → Command
  -- the figures of a text of so many lines, made by so many workers
  sample : (lines workers : ℕ) → Command

-- the word is an operand by itself: it does not begin with `-`, or it is `-`
abbrev pub IsOperand : List ℕ → Type 0
IsOperand [] = Unit {0}
IsOperand (c ∷ cs) = (c ≢ 45) ⊎ (cs ≡ [])

-- The words behind the first have these operands and these values of workers, each in order: `--` ends the options, and all words behind it
-- are operands; `--workers` has the next word as its value, whatever it is; a word that begins with `--workers=` has the rest as its value.
-- No other word begins with `-`, but for `-` itself.
pub data Reads : List (List ℕ) → List (List ℕ) → List (List ℕ) → Type 0 where
  no_word : Reads [] [] []
  end_of_options : (w : List ℕ) (words : List (List ℕ)) → w ≡ codes "--" → Reads (w ∷ words) words []
  next_value : (w val : List ℕ) (words operands values : List (List ℕ)) → w ≡ codes "--workers" → Reads words operands values → Reads (w ∷ val ∷ words) operands (val ∷ values)
  joined_value : (w val : List ℕ) (words operands values : List (List ℕ)) → w ≡ codes "--workers=" ++ val → Reads words operands values → Reads (w ∷ words) operands (val ∷ values)
  operand : (w : List ℕ) (words operands values : List (List ℕ)) → IsOperand w → Reads words operands values → Reads (w ∷ words) (w ∷ operands) values

-- the word is a number of at most so many decimal digits, from 1 to `most`
abbrev pub IsCount : (figures most : ℕ) → List ℕ → ℕ → Type 0
IsCount figures most word n = IsNumeral 10 word × (length word ≤ figures) × (n ≡ digits_value 10 word) × (1 ≤ n) × (n ≤ most)

-- the number of workers, from 1 to 64: the one value, or 2 where there is none
abbrev pub IsWorkers : List (List ℕ) → ℕ → Type 0
IsWorkers [] n = n ≡ 2
IsWorkers (val ∷ []) n = IsCount 3 64 val n
IsWorkers (val ∷ other ∷ values) n = ⊥

-- the first word asks for the command: `parse` with a grammar and a text, `check` with a grammar and no value of workers, `sample` with a
-- number from 1 to 10,000
abbrev pub Asks : (word : List ℕ) (operands values : List (List ℕ)) → Command → Type 0
Asks word operands values (parse grammar text workers) = (word ≡ codes "parse") × (operands ≡ grammar ∷ text ∷ []) × IsWorkers values workers
Asks word operands values (check grammar) = (word ≡ codes "check") × (operands ≡ grammar ∷ []) × (values ≡ [])
Asks word operands values (sample lines workers) =
    (word ≡ codes "sample") × (number : List ℕ) × (operands ≡ number ∷ []) × IsCount 5 10000 number lines × IsWorkers values workers

-- the words ask for the command
abbrev pub IsCommand : List (List ℕ) → Command → Type 0
IsCommand words command =
    (word : List ℕ) × (others operands values : List (List ℕ)) × (words ≡ word ∷ others) × Reads others operands values × Asks word operands values command

-- the words have no form
abbrev pub HasNoForm : List (List ℕ) → Type 0
HasNoForm words = (command : Command) → ¬ (IsCommand words command)
