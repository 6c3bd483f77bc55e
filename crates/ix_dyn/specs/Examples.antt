-- Small marked trees that no document is made of: what the worked examples speak of.
use Rattle.std.specs.Prelude.{ℕ, List, [], ◌∷◌, ◌++◌, codes}
use Rattle.ix_model.specs.declared.rules.Flat.{Flat}
use Rattle.ix_model.specs.Expansion.Parts.{Parts}
use Rattle.ix_examples.specs.SmallPlans.{named, plan_of}
use Rattle.ix_marks.specs.declared.item.Item.{Item}
use Rattle.ix_marks.specs.declared.item.Item.TheVariants.{Begin, Close}
use Rattle.ix_marks.specs.declared.item.Attr.{Attr}
use Rattle.ix_marks.specs.Examples.{attr}
use Rattle.ix_marks.specs.MarkedLists.{MarkedLists}

-- a rule whose only alternative is empty
abbrev pub empty_rule : Flat
empty_rule = named ([] ∷ [])

-- names 0, 1 and 2
abbrev pub odd_names : List (List ℕ)
odd_names = codes "S" ∷ codes "-" ∷ codes "xmlns" ∷ []

-- `t` and the characters 1 and 2
abbrev pub odd_chars : List ℕ
odd_chars = 116 ∷ 1 ∷ 2 ∷ []

-- from place 0 two attributes `xmlns`, from place 2 two attributes `S`; the first of each two has the character 1
abbrev pub odd_attrs : List Attr
odd_attrs = attr 2 1 2 ∷ attr 2 0 1 ∷ attr 0 1 2 ∷ attr 0 0 1 ∷ []

-- an element with this name, these attributes and this content
abbrev pub element : (name low high : ℕ) → List Item → List Item
element name low high content = Begin name low high ∷ (content ++ Close name ∷ [])

-- these attributes at the top, and these items
abbrev pub odd : List Attr → List Item → MarkedLists
odd top items = record { items = items; attrs = odd_attrs; top = top; chars = odd_chars }

-- the plan of three rules with these names, whose alternatives are empty, for `t` and the character 1
abbrev pub odd_plan : Parts
odd_plan = plan_of odd_names (empty_rule ∷ empty_rule ∷ empty_rule ∷ []) [] [] (116 ∷ 1 ∷ [])
