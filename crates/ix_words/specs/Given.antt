-- The texts that a parse by `clap` has under an id.
-- Source: this project's own, by the matches of `clap`.
use Rattle.std.specs.Prelude.{ℕ, List, [], unwrap_or, option_map}
use Rattle.clap.specs.Words.{found_of, matched_of, raw_values}
use Rattle.clap.specs.declared.parser.matches.ArgMatches.{ArgMatches}

-- the texts under the id, in order; none where nothing was given
abbrev pub given : List ℕ → ArgMatches → List (List ℕ)
given id m = unwrap_or (option_map raw_values (matched_of (found_of m) id)) []
