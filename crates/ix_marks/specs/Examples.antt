-- Small marked trees, and what is given: what the worked examples speak of.
use Rattle.std.specs.Prelude.{ℕ, List, [], ◌∷◌, codes}
use Rattle.ix_model.specs.Documents.Gives.{attribute, element, run, Givens, nothing, followed}
use Rattle.ix_marks.specs.declared.item.Item.{Item}
use Rattle.ix_marks.specs.declared.item.Item.TheVariants.{Begin, Close, Chars}
use Rattle.ix_marks.specs.declared.item.Attr.{Attr}
use Rattle.ix_marks.specs.MarkedLists.{MarkedLists}

-- names 0, 1 and 2
abbrev pub small_names : List (List ℕ)
small_names = codes "S" ∷ codes "a" ∷ codes "b" ∷ []

-- of the name with this number, with the characters from low to high
abbrev pub attr : (name low high : ℕ) → Attr
attr name low high = record { name = name; low = low; high = high }

-- these attributes, and nothing else
abbrev pub only_attrs : List Attr → List Attr → List ℕ → MarkedLists
only_attrs attrs top chars = record { items = []; attrs = attrs; top = top; chars = chars }

-- these items, with the attributes a="v" and b="w" of elements
abbrev pub with_items : List Item → MarkedLists
with_items items = record { items = items; attrs = attr 1 1 2 ∷ attr 2 2 3 ∷ []; top = []; chars = codes "tvw" }

-- <S a="v" b="w">t</S>
abbrev pub two_values : MarkedLists
two_values = with_items (Begin 0 0 2 ∷ Chars 0 1 ∷ Close 0 ∷ [])

-- an element `S` with this content
abbrev pub s_of : Givens → Givens
s_of inner = followed (element (codes "S") inner) nothing

-- <S a="v" b="w">t</S>, with the second attribute given behind the text
abbrev pub two_given : Givens
two_given = s_of (followed (attribute (codes "a") (codes "v")) (followed (run (codes "t")) (followed (attribute (codes "b") (codes "w")) nothing)))

-- the same with its attributes in the other order
abbrev pub two_reversed : Givens
two_reversed = s_of (followed (attribute (codes "b") (codes "w")) (followed (run (codes "t")) (followed (attribute (codes "a") (codes "v")) nothing)))

-- `S` without attributes, with these runs of `tv` and what ends it
abbrev pub with_runs : List Item → MarkedLists
with_runs runs = record { items = Begin 0 0 0 ∷ runs; attrs = []; top = []; chars = codes "tv" }

-- <S>tv</S>
abbrev pub one_run : Givens
one_run = s_of (followed (run (codes "tv")) nothing)

-- an attribute that no element has
abbrev pub at_top : Givens
at_top = followed (attribute (codes "a") (codes "v")) nothing

-- <S><b a="v"/></S>
abbrev pub inner_given : Givens
inner_given = s_of (followed (element (codes "b") at_top) nothing)
