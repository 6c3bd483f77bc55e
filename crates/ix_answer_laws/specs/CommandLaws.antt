-- Laws of the words: they ask for one command, or have no form.
use Rattle.std.specs.Prelude.{◌≡◌, ◌⊎◌, ℕ, List}
use Rattle.ix_model.specs.Answers.CommandLine.{Command, IsCommand, HasNoForm}

-- words ask for at most one command
abbrev pub CommandIsOne : Type 0
CommandIsOne = (words : List (List ℕ)) (command other : Command) → IsCommand words command → IsCommand words other → command ≡ other

-- words ask for a command, or have no form
abbrev pub CommandOrNone : Type 0
CommandOrNone = (words : List (List ℕ)) → ((command : Command) × IsCommand words command) ⊎ HasNoForm words
