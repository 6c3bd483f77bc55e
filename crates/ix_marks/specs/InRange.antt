-- What a marked tree names is there.
use Rattle.std.specs.Prelude.{ℕ, ◌<◌, ◌≤◌, List, length, sum_by}
use Rattle.std.specs.List.{AllByRecursion}
use Rattle.ix_marks.specs.declared.item.Item.{Item}
use Rattle.ix_marks.specs.declared.item.Item.TheVariants.{Begin, Close, Chars}
use Rattle.ix_marks.specs.declared.item.Attr.{Attr}
use Rattle.ix_marks.specs.Counted.{run_length}
use Rattle.ix_marks.specs.MarkedLists.{MarkedLists}

module _ (names : List (List ℕ)) where
  -- the attribute's name is there, and its value, which may be empty
  abbrev pub IsAttrIn : List ℕ → Attr → Type 0
  IsAttrIn chars attr = (attr.name < length names) × (attr.low ≤ attr.high) × (attr.high ≤ length chars)

  -- the item's name and attributes are there; a run is there and has a character
  abbrev pub IsItemIn : List Attr → List ℕ → Item → Type 0
  IsItemIn attrs chars (Begin name low high) = (name < length names) × (low ≤ high) × (high ≤ length attrs)
  IsItemIn attrs chars (Close name) = name < length names
  IsItemIn attrs chars (Chars low high) = (low < high) × (high ≤ length chars)

  -- so it is with each
  abbrev pub AreAttrsIn : List ℕ → List Attr → Type 0
  AreAttrsIn chars attrs = AllByRecursion (IsAttrIn chars) attrs

  abbrev pub AreItemsIn : List Attr → List ℕ → List Item → Type 0
  AreItemsIn attrs chars items = AllByRecursion (IsItemIn attrs chars) items

  -- with all items, all attributes of elements, and all that no element has; the runs have no more characters than there are, so that
  -- who counts them never counts too far
  pub record AreIn (m : MarkedLists) : Type 0 where
    pub items_in : AreItemsIn m.attrs m.chars m.items
    pub attrs_in : AreAttrsIn m.chars m.attrs
    pub top_in : AreAttrsIn m.chars m.top
    pub runs_fit : sum_by run_length m.items ≤ length m.chars
