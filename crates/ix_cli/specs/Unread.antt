-- Which file could not be read: one that the words name, and the text only once the grammar was there.
-- Source: this project's own.
use Rattle.std.specs.Prelude.{◌≡◌, ◌⊎◌, ℕ, List, Option}
use Rattle.ix_model.specs.declared.grammar.Grammar.{Grammar}
use Rattle.ix_model.specs.Answers.Answer.{HoldsConforming}
use Rattle.ix_model.specs.Answers.CommandLine.{Command, parse, check, sample, IsCommand}
use Rattle.ix_edge.specs.Causes.{Rose}
use Rattle.ix_edge.specs.Told.{Told}
use Rattle.ix_cli.specs.Loaded.{Holds}

-- where the files tell it, the name holds a conforming grammar
abbrev pub HoldsSome : Option Told → List ℕ → Type 0
HoldsSome told grammar = Holds told grammar (λ bytes. (g : Grammar) × HoldsConforming bytes g)

-- the command reads the file of this name, and has read all that it reads before
abbrev pub IsNext : Option Told → Command → List ℕ → Type 0
IsNext told (parse grammar text workers) name = (name ≡ grammar) ⊎ ((name ≡ text) × HoldsSome told grammar)
IsNext told (check grammar) name = name ≡ grammar
IsNext told (sample lines workers) name = ⊥

-- the count of this file's name rose, and the file was the next to be read
abbrev pub IsUnread : List (List ℕ) → Option Told → (List ℕ → ℕ) → (List ℕ → ℕ) → List ℕ → Type 0
IsUnread words told old new name = (command : Command) × IsCommand words command × Rose (old name) (new name) × IsNext told command name
