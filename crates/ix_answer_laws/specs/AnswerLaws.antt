-- The laws of answers: there is one, and no other.
-- Whether a text has a derivation is not decided here, so the law that there is an answer says that there can't be none.
use Rattle.std.specs.Prelude.{◌≡◌, ℕ, List, Option, Some}
use Rattle.ix_model.specs.Answers.CommandLine.{Command, parse, check, sample, IsCommand}
use Rattle.ix_model.specs.Answers.Outcome.{Outcome}
use Rattle.ix_model.specs.Answers.Answer.{Answered}

-- words have at most one outcome under what the files hold
abbrev pub AnswerIsOne : Type 0
AnswerIsOne = (words : List (List ℕ)) (map : List ℕ → Option (List ℕ)) (outcome other : Outcome) → Answered words map outcome → Answered words map other → outcome ≡ other

-- the map has a file of this name
abbrev pub IsHeld : (map : List ℕ → Option (List ℕ)) → List ℕ → Type 0
IsHeld map name = (bytes : List ℕ) × (map name ≡ Some bytes)

-- the map has each file that the command names
abbrev pub HasFilesOf : (map : List ℕ → Option (List ℕ)) → Command → Type 0
HasFilesOf map (parse grammar text workers) = IsHeld map grammar × IsHeld map text
HasFilesOf map (check grammar) = IsHeld map grammar
HasFilesOf map (sample lines workers) = Unit {0}

-- the words have no form, or the map has each file that they name
abbrev pub AreHeld : List (List ℕ) → (map : List ℕ → Option (List ℕ)) → Type 0
AreHeld words map = (command : Command) → IsCommand words command → HasFilesOf map command

-- words have an outcome where the files that they name are there
abbrev pub AnswerIsThere : Type 0
AnswerIsThere = (words : List (List ℕ)) (map : List ℕ → Option (List ℕ)) → AreHeld words map → ¬ ((outcome : Outcome) → ¬ (Answered words map outcome))
