-- What stands in no element, by the items: a depth goes along with them.
-- Source: plain.
use Rattle.std.specs.Prelude.{ℕ, zero, suc, ◌+◌, ◌-◌, List, [], ◌∷◌}
use Rattle.ix_marks.specs.declared.item.Item.{Item}
use Rattle.ix_marks.specs.declared.item.Item.TheVariants.{Begin, Close, Chars}

-- how many elements begin with the item
abbrev pub begin_count : Item → ℕ
begin_count (Begin name low high) = 1
begin_count (Close name) = 0
begin_count (Chars low high) = 0

-- how many elements are open behind the item, where so many were before it
abbrev pub depth_behind : ℕ → Item → ℕ
depth_behind depth (Begin name low high) = depth + 1
depth_behind depth (Close name) = depth - 1
depth_behind depth (Chars low high) = depth

-- what counts where no element is open
abbrev pub at_depth : ℕ → ℕ → ℕ
at_depth zero n = n
at_depth (suc depth) n = 0

-- the sum of what counts at the items that stand in no element, where so many elements are open before them
abbrev pub sum_at_top : (Item → ℕ) → ℕ → List Item → ℕ
sum_at_top count depth [] = 0
sum_at_top count depth (item ∷ items) = at_depth depth (count item) + sum_at_top count (depth_behind depth item) items
