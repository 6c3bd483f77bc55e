-- Files that the worked examples speak of.
use Rattle.std.specs.Prelude.{[], ◌∷◌, true, false, codes}
use Rattle.ix_edge.specs.Told.{Told}

-- two entries of one name, and no other name
abbrev pub one_file : Told
one_file = record { entries = (codes "a", codes "xy") ∷ (codes "a", codes "z") ∷ []; others_empty = false }

-- every other name holds nothing
abbrev pub and_others : Told
and_others = record { entries = one_file.entries; others_empty = true }
