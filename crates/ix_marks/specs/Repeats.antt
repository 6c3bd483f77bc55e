-- The first attribute whose name an earlier one of its element has, by the numbers of the names.
-- Source: XML 1.0 (Fifth Edition), "Unique Att Spec".
use Rattle.std.specs.Prelude.{◌==◌, ℕ, if◌then◌else◌, List, [], ◌∷◌, ◌++◌, map, Option, Some, None}
use Rattle.std.specs.List.{list_any}
use Rattle.std.specs.Option.{option_or}
use Rattle.ix_marks.specs.declared.item.Item.{Item}
use Rattle.ix_marks.specs.declared.item.Item.TheVariants.{Begin, Close, Chars}
use Rattle.ix_marks.specs.declared.item.Attr.{Attr}
use Rattle.ix_marks.specs.Ranges.{range_of}

-- the numbers of their names
abbrev pub numbers : List Attr → List ℕ
numbers attrs = map (λ (attr : Attr). attr.name) attrs

-- the first number that stands before it too, there or among those before
abbrev pub repeat_behind : List ℕ → List ℕ → Option ℕ
repeat_behind before [] = None
repeat_behind before (x ∷ xs) = if list_any (λ y. y == x) before then Some x else repeat_behind (before ++ x ∷ []) xs

-- the first repeated name of the first element that has one
abbrev pub repeat_among : List Attr → List Item → Option ℕ
repeat_among attrs [] = None
repeat_among attrs (Begin name low high ∷ items) = option_or (repeat_behind [] (numbers (range_of attrs low high))) (repeat_among attrs items)
repeat_among attrs (Close name ∷ items) = repeat_among attrs items
repeat_among attrs (Chars low high ∷ items) = repeat_among attrs items
