-- The loops over a string.
use Rattle.std.proofs.Common.{ℕ, List, ◌++◌, Option}
use Rattle.std.specs.Prelude.{Bool, true, false}
use Rattle.ix_spelling_laws.specs.Reading.Lexing.{quoted, closed, Read}

-- what was read before, and what is read behind it
abbrev pub onto : List ℕ → Read → Read
onto out v = (out ++ v.0, v.1)

-- what is still read, where a quote came just before or not
abbrev pub left : Bool → ℕ → List ℕ → Option Read
left true q c = closed q c
left false q c = quoted q c
