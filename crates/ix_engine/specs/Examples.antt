-- Figures and marked trees that the worked examples speak of.
use Rattle.std.specs.Prelude.{[], ◌∷◌, codes}
use Rattle.ix_model.specs.declared.counts.Counts.{Counts}
use Rattle.ix_marks.specs.declared.item.Item.TheVariants.{Begin, Close, Chars}
use Rattle.ix_marks.specs.MarkedLists.{MarkedLists}

-- of S: "a". on `a`
abbrev pub a_counts : Counts
a_counts = record { descriptors = 2; subtrees = 1 }

-- of S: "a". on `b`
abbrev pub b_counts : Counts
b_counts = record { descriptors = 1; subtrees = 0 }

-- an element `S` with the character `a`
abbrev pub a_marked : MarkedLists
a_marked = record { items = Begin 0 0 0 ∷ Chars 0 1 ∷ Close 0 ∷ []; attrs = []; top = []; chars = codes "a" }

-- an element `S` with nothing in it
abbrev pub empty_marked : MarkedLists
empty_marked = record { items = Begin 0 0 0 ∷ Close 0 ∷ []; attrs = []; top = []; chars = codes "a" }
