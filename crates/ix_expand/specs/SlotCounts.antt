-- How many slots there are, from the lengths of alternatives.
-- Source: this project's own.
use Rattle.std.specs.Prelude.{ℕ, ◌+◌, List, Option, Some, None, length, sum_by}
use Rattle.ix_model.specs.declared.rules.Line.{Line}
use Rattle.ix_model.specs.declared.rules.Sym.{Sym}
use Rattle.ix_model.specs.declared.rules.Flat.{Flat}
use Rattle.ix_expand.specs.declared.made.Made.{Made}

-- an alternative has a slot before each symbol, and one at its end
abbrev pub line_slots : Line → ℕ
line_slots line = length line.syms + 1

-- the slots of alternatives
abbrev pub lines_slots : List Line → ℕ
lines_slots lines = sum_by line_slots lines

-- the slots of rules
abbrev pub flats_slots : List Flat → ℕ
flats_slots flats = sum_by (λ (flat : Flat). lines_slots flat.lines) flats

-- the slots of the helper rules that are made
abbrev pub slots_of : Made → ℕ
slots_of made = flats_slots made.flats

-- how many symbols a separator is
abbrev pub sep_symbols : Option Sym → ℕ
sep_symbols None = 0
sep_symbols (Some x) = 1
