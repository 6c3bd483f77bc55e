-- What the worked examples speak of.
use Rattle.std.specs.Prelude.{◌≡◌, ℕ, List, [], ◌∷◌, Option, codes, map, option_map}
use Rattle.clap.specs.Words.{found_of, rows_of, subcommand_of}
use Rattle.clap.specs.Walk.{Row}
use Rattle.clap.specs.declared.parser.matches.ArgMatches.{ArgMatches}
use Rattle.ix_words.specs.ReaderApp.{reader_app}

-- what `clap` reads the words as: the name of a command, and the texts under each id
abbrev pub read_by_clap : List (List ℕ) → Option (List ℕ × List (List ℕ × List (List ℕ)))
read_by_clap words = option_map (λ command. (command.0, map (λ row. (row.id, row.values)) command.1)) (subcommand_of reader_app words)

-- the rows of the parse are one of operands and one of workers
abbrev pub HasOperandsAndWorkers : ArgMatches → (operands workers : Row) → Type 0
HasOperandsAndWorkers m operands workers =
    (rows_of (found_of m) ≡ operands ∷ workers ∷ []) × (operands.id ≡ codes "operand") × (workers.id ≡ codes "workers")
