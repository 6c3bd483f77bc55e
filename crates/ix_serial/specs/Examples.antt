-- A small marked tree that the worked examples speak of: `<S a="v">t</S>`.
use Rattle.std.specs.Prelude.{List, [], ◌∷◌, ℕ, codes}
use Rattle.ix_marks.specs.declared.item.Item.TheVariants.{Begin, Close, Chars}
use Rattle.ix_marks.specs.MarkedLists.{MarkedLists}

-- the names of two rules
abbrev pub names : List (List ℕ)
names = codes "S" ∷ codes "a" ∷ []

abbrev pub tree : MarkedLists
tree = record {
  items = Begin 0 0 1 ∷ Chars 1 2 ∷ Close 0 ∷ [];
  attrs = record { name = 1; low = 0; high = 1 } ∷ [];
  top = [];
  chars = codes "vt";
}
