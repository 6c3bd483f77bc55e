-- Small documents, as what a root gives.
use Rattle.std.specs.Prelude.{ℕ, List, [], ◌∷◌, codes}
use Rattle.ix_model.specs.Documents.Gives.{Given, attribute, element, run, Givens, nothing, followed}

-- an element `S` with this content
abbrev pub s_with : Givens → Given
s_with inner = element (codes "S") inner

abbrev pub empty_s : Given
empty_s = s_with nothing

-- an attribute of this name with the value `v`
abbrev pub a_is : List ℕ → Given
a_is name = attribute name (codes "v")

-- the characters alone
abbrev pub text_of : List ℕ → Givens
text_of cs = followed (run cs) nothing

-- two attributes of this name, and then more
abbrev pub two_attributes : List ℕ → Givens → Givens
two_attributes name gs = followed (a_is name) (followed (a_is name) gs)

-- one element `S` with this content
abbrev pub document : Givens → Givens
document inner = followed (s_with inner) nothing

-- ---- contents

-- an element `.b`, and an attribute `.a`
abbrev pub stops : Givens
stops = followed (element (codes ".b") nothing) (followed (a_is (codes ".a")) nothing)

-- an attribute `a` twice, and an element `-`
abbrev pub repeat_and_hyphen : Givens
repeat_and_hyphen = two_attributes (codes "a") (followed (element (codes "-") nothing) nothing)

-- an attribute `xmlns`
abbrev pub with_xmlns : Givens
with_xmlns = followed (a_is (codes "xmlns")) nothing

-- an element with an attribute `xmlns`
abbrev pub xmlns_within : Givens
xmlns_within = followed (s_with with_xmlns) nothing

-- attributes `x`, `x`
abbrev pub x_x : Givens
x_x = two_attributes (codes "x") nothing

-- attributes `x`, `y`, `y`, `x`
abbrev pub x_y_y_x : Givens
x_y_y_x = followed (a_is (codes "x")) (two_attributes (codes "y") (followed (a_is (codes "x")) nothing))

-- an element with attributes `x`, `x`, and attributes `y`, `y`
abbrev pub repeats_within : Givens
repeats_within = followed (s_with x_x) (two_attributes (codes "y") nothing)

-- an attribute `x`, text, and an element with an attribute `x`
abbrev pub x_within_x : Givens
x_within_x = followed (a_is (codes "x")) (followed (run (codes "t")) (followed (s_with (followed (a_is (codes "x")) nothing)) nothing))

-- `a` and the character 1, and an attribute with the character 0
abbrev pub controls : Givens
controls = followed (run (97 ∷ 1 ∷ [])) (followed (attribute (codes "a") (0 ∷ [])) nothing)

-- <n b="2" c="3">u<m/></n>, with the second attribute given behind the element `m`
abbrev pub element_n : Given
element_n = element (codes "n") (followed (attribute (codes "b") (codes "2")) (followed (run (codes "u")) (followed (element (codes "m") nothing) (followed (attribute (codes "c") (codes "3")) nothing))))

-- <S a="1" d="4">t<n ..>v</S>, with the second attribute given behind the element `n`
abbrev pub three_deep : Givens
three_deep = followed (attribute (codes "a") (codes "1")) (followed (run (codes "t")) (followed element_n (followed (attribute (codes "d") (codes "4")) (followed (run (codes "v")) nothing))))

-- that element, with characters and an attribute behind it
abbrev pub and_more : Givens
and_more = followed (s_with three_deep) (followed (run (codes "wx")) (followed (attribute (codes "top") (codes "0")) nothing))
