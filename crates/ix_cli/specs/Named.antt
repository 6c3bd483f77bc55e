-- The files that words name.
-- Source: this project's own.
use Rattle.std.specs.Prelude.{◌≡◌, ◌⊎◌, ℕ, List}
use Rattle.ix_model.specs.Answers.CommandLine.{Command, parse, check, sample, IsCommand}

-- the words ask for some command
abbrev pub HasCommand : List (List ℕ) → Type 0
HasCommand words = (command : Command) × IsCommand words command

-- the command reads the file of this name as its grammar
abbrev pub ReadsGrammar : Command → List ℕ → Type 0
ReadsGrammar (parse grammar text workers) name = name ≡ grammar
ReadsGrammar (check grammar) name = name ≡ grammar
ReadsGrammar (sample lines workers) name = ⊥

-- the command reads the file of this name as its text
abbrev pub ReadsText : Command → List ℕ → Type 0
ReadsText (parse grammar text workers) name = name ≡ text
ReadsText (check grammar) name = ⊥
ReadsText (sample lines workers) name = ⊥

-- the words ask for a command that reads the file of this name
abbrev pub Names : List (List ℕ) → List ℕ → Type 0
Names words name = (command : Command) × IsCommand words command × (ReadsGrammar command name ⊎ ReadsText command name)
