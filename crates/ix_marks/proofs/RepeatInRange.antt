-- A repeated name is there where the attributes' names are.
use Rattle.std.proofs.Common.{◌<◌, ◌-◌, ℕ, List, [], ◌∷◌, ◌++◌, length, drop, Option, Some, None}
use Rattle.std.specs.Prelude.{IfSome}
use Rattle.std.specs.List.{AllByRecursion}
use Rattle.std.specs.Option.{option_or}
use Rattle.std.proofs.lemmas.Bool.{cond_both}
use Rattle.ix_marks.specs.declared.item.Item.{Item}
use Rattle.ix_marks.specs.declared.item.Item.TheVariants.{Begin, Close, Chars}
use Rattle.ix_marks.specs.declared.item.Attr.{Attr}
use Rattle.ix_marks.specs.InRange.{AreAttrsIn, IsAttrIn}
use Rattle.ix_marks.specs.Laws.{RepeatIsIn}
use Rattle.ix_marks.specs.Ranges.{range_of}
use Rattle.ix_marks.specs.Repeats.{numbers, repeat_behind, repeat_among}
use Rattle.ix_marks.proofs.Ranges.{all_take, all_drop}
use Rattle.ix_marks.proofs.Repeating.{has}

module _ (names : List (List ℕ)) where
  -- these are numbers of names
  abbrev pub AreNumbers : List ℕ → Type 0
  AreNumbers ns = AllByRecursion (λ n. n < length names) ns

  pub numbers_in : (chars : List ℕ) (xs : List Attr) → AreAttrsIn names chars xs → AreNumbers (numbers xs)
  numbers_in chars [] h = tt
  numbers_in chars (x ∷ xs) h = (h.0.0, numbers_in chars xs h.1)

  -- those of a range of the attributes
  pub range_numbers_in : (chars : List ℕ) (attrs : List Attr) (low high : ℕ) → AreAttrsIn names chars attrs → AreNumbers (numbers (range_of attrs low high))
  range_numbers_in chars attrs low high h =
      numbers_in chars (range_of attrs low high) (all_take (IsAttrIn names chars) (high - low) (drop low attrs) (all_drop (IsAttrIn names chars) low attrs h))

  abbrev IsIn : Option ℕ → Type 0
  IsIn r = IfSome r (λ n. n < length names)

  either_in : (r q : Option ℕ) → IsIn r → IsIn q → IsIn (option_or r q)
  either_in None q h k = k
  either_in (Some n) q h k = h

  behind_in : (before xs : List ℕ) → AreNumbers xs → IsIn (repeat_behind before xs)
  behind_in before [] h = tt
  behind_in before (x ∷ xs) h = cond_both (has x before) (Some x) (repeat_behind (before ++ x ∷ []) xs) IsIn (λ e. h.0) (λ e. behind_in (before ++ x ∷ []) xs h.1)

  among_in : (chars : List ℕ) (attrs : List Attr) (items : List Item) → AreAttrsIn names chars attrs → IsIn (repeat_among attrs items)
  among_in chars attrs [] h = tt
  among_in chars attrs (Begin n low high ∷ items) h =
      either_in (repeat_behind [] (numbers (range_of attrs low high))) (repeat_among attrs items) (behind_in [] (numbers (range_of attrs low high)) (range_numbers_in chars attrs low high h)) (among_in chars attrs items h)
  among_in chars attrs (Close n ∷ items) h = among_in chars attrs items h
  among_in chars attrs (Chars low high ∷ items) h = among_in chars attrs items h

pub repeat_is_in : RepeatIsIn
repeat_is_in names m h = among_in names m.chars m.attrs m.items h.attrs_in
