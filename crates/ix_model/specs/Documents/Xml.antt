-- The bytes of a document: UTF-8 without declaration or indentation, one line feed behind the root.
-- Sources: XML 1.0 (Fifth Edition), "Character Data and Markup" and "Attribute-Value Normalization"; the words of the
-- state are those of Invisible XML 1.0, "Parsing"; which characters are escaped and the layout are this project's own.
use Rattle.std.specs.Prelude.{ℕ, ◌==◌, List, [], ◌∷◌, ◌++◌, if◌then◌else◌, codes, encode_utf8}
use Rattle.std.specs.List.{flat_map}
use Rattle.ix_model.specs.declared.state.State.{State}
use Rattle.ix_model.specs.declared.state.State.TheVariants.{Single, Ambiguous}
use Rattle.ix_model.specs.Documents.Gives.{Given, attribute, element, run, Givens, nothing, followed}

-- a character of the content: `&`, `<`, `>` and carriage return by a reference
abbrev pub content_bytes : ℕ → List ℕ
content_bytes c =
    if c == 38 then codes "&amp;"
    else (if c == 60 then codes "&lt;"
    else (if c == 62 then codes "&gt;"
    else (if c == 13 then codes "&#xD;"
    else encode_utf8 c)))

-- a character of a value: `&`, `<`, `"`, tab, line feed and carriage return by a reference
abbrev pub value_bytes : ℕ → List ℕ
value_bytes c =
    if c == 38 then codes "&amp;"
    else (if c == 60 then codes "&lt;"
    else (if c == 34 then codes "&quot;"
    else (if c == 9 then codes "&#x9;"
    else (if c == 10 then codes "&#xA;"
    else (if c == 13 then codes "&#xD;"
    else encode_utf8 c)))))

-- a name stands as it is
abbrev pub name_bytes : List ℕ → List ℕ
name_bytes name = flat_map encode_utf8 name

-- a space, the name, and the value in quotes
abbrev pub attribute_bytes : List ℕ → List ℕ → List ℕ
attribute_bytes name val = codes " " ++ (name_bytes name ++ (codes "=\"" ++ (flat_map value_bytes val ++ codes "\"")))

-- the attributes among what an element's parts give, in order
abbrev pub attributes_bytes : Givens → List ℕ
attributes_bytes nothing = []
attributes_bytes (followed (attribute name val) gs) = attribute_bytes name val ++ attributes_bytes gs
attributes_bytes (followed _ gs) = attributes_bytes gs

-- an element of this name with these attributes, closed at once where it has no content
abbrev pub element_bytes : List ℕ → List ℕ → List ℕ → List ℕ
element_bytes name attributes [] = codes "<" ++ (name_bytes name ++ (attributes ++ codes "/>"))
element_bytes name attributes (b ∷ bs) =
    codes "<" ++ (name_bytes name ++ (attributes ++ (codes ">" ++ ((b ∷ bs) ++ (codes "</" ++ (name_bytes name ++ codes ">"))))))

abbrev mutual
  -- the elements and characters among what an element's parts give, in order
  pub contents_bytes : Givens → List ℕ
  contents_bytes nothing = []
  contents_bytes (followed g gs) = part_bytes g ++ contents_bytes gs

  pub part_bytes : Given → List ℕ
  part_bytes (attribute name val) = []
  part_bytes (element name inner) = element_bytes name (attributes_bytes inner) (contents_bytes inner)
  part_bytes (run cs) = flat_map content_bytes cs

-- where the text is ambiguous, the root says so before its own attributes
abbrev pub state_bytes : State → List ℕ
state_bytes Single = []
state_bytes Ambiguous = codes " xmlns:ixml=\"http://invisiblexml.org/NS\" ixml:state=\"ambiguous\""

-- the document of what the root gives: one element, and a line feed. What gives anything else has no document, and
-- is refused before.
abbrev pub xml : Givens → State → List ℕ
xml (followed (element name inner) nothing) state = element_bytes name (state_bytes state ++ attributes_bytes inner) (contents_bytes inner) ++ 10 ∷ []
xml _ state = []
