-- What is given, as a row of pieces: start tags with their attributes, runs of characters, and end tags, in document order.
-- Sources: XML 1.0 (Fifth Edition), "Start-Tags, End-Tags, and Empty-Element Tags"; Invisible XML 1.0, "Parsing"
-- (an attribute is one of the element around it, in the order of the nodes).
use Rattle.std.specs.Prelude.{ℕ, List, [], ◌∷◌, ◌++◌}
use Rattle.ix_model.specs.Documents.Gives.{attribute, element, run, Givens, nothing, followed}

-- an attribute by its name and its value
pub record Attribute : Type 0 where
  pub name : List ℕ
  pub value : List ℕ

pub data Piece : Type 0 where
  -- an element of this name begins, with its attributes in order
  start_tag : (name : List ℕ) → (attributes : List Attribute) → Piece
  -- an element of this name ends
  end_tag : (name : List ℕ) → Piece
  -- a run of characters
  characters : List ℕ → Piece

abbrev pub attribute_is : (name value : List ℕ) → Attribute
attribute_is name val = record { name = name; value = val }

-- the attributes that are given to one element, in order; those within its elements are theirs
abbrev pub attributes : Givens → List Attribute
attributes nothing = []
attributes (followed (attribute name val) gs) = attribute_is name val ∷ attributes gs
attributes (followed (element name inner) gs) = attributes gs
attributes (followed (run cs) gs) = attributes gs

-- the elements and runs of characters that are given, in order, at any depth
abbrev pub pieces : Givens → List Piece
pieces nothing = []
pieces (followed (attribute name val) gs) = pieces gs
pieces (followed (element name inner) gs) = start_tag name (attributes inner) ∷ (pieces inner ++ (end_tag name ∷ pieces gs))
pieces (followed (run cs) gs) = characters cs ∷ pieces gs
