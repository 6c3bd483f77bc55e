-- How many attributes the elements of a marked tree have, and how many characters its runs.
use Rattle.std.specs.Prelude.{◌≡◌, ℕ, ◌-◌, length, sum_by}
use Rattle.ix_marks.specs.declared.item.Item.{Item}
use Rattle.ix_marks.specs.declared.item.Item.TheVariants.{Begin, Close, Chars}
use Rattle.ix_marks.specs.MarkedLists.{MarkedLists}

-- those of the element that begins
abbrev pub attribute_count : Item → ℕ
attribute_count (Begin name low high) = high - low
attribute_count (Close name) = 0
attribute_count (Chars low high) = 0

-- the characters of the run
abbrev pub run_length : Item → ℕ
run_length (Begin name low high) = 0
run_length (Close name) = 0
run_length (Chars low high) = high - low

-- the elements have as many as there are: who goes over the attributes of each element looks at no more
abbrev pub AreCounted : MarkedLists → Type 0
AreCounted m = sum_by attribute_count m.items ≡ length m.attrs
