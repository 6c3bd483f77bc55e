-- What a reader of the pieces finds, one piece after the other: the lists and counts that keep a derivation from being a document.
use Rattle.std.specs.Prelude.{◌≡◌, ℕ, zero, suc, ◌+◌, List, [], ◌∷◌, length, map}
use Rattle.std.specs.List.{flat_map}
use Rattle.ix_model.specs.Documents.Gives.{Givens}
use Rattle.ix_model.specs.Documents.Dyn.{attribute_names, value_characters, element_count, character_count, content_names, content_characters, content_attributes}
use Rattle.ix_marks.specs.Pieces.{Attribute, Piece, start_tag, end_tag, characters, attributes, pieces}

-- the names of attributes, in order
abbrev pub names_of : List Attribute → List (List ℕ)
names_of ats = map (λ (a : Attribute). a.name) ats

-- the characters of their values, in order
abbrev pub values_of : List Attribute → List ℕ
values_of ats = flat_map (λ (a : Attribute). a.value) ats

-- the names that come with a piece: an element's, and its attributes'
abbrev pub piece_names : Piece → List (List ℕ)
piece_names (start_tag name ats) = name ∷ names_of ats
piece_names (end_tag name) = []
piece_names (characters cs) = []

-- the characters that come with a piece: of values, and of a run
abbrev pub piece_characters : Piece → List ℕ
piece_characters (start_tag name ats) = values_of ats
piece_characters (end_tag name) = []
piece_characters (characters cs) = cs

-- the names of the attributes of an element that begins
abbrev pub piece_attributes : Piece → List (List (List ℕ))
piece_attributes (start_tag name ats) = names_of ats ∷ []
piece_attributes (end_tag name) = []
piece_attributes (characters cs) = []

-- how many elements stand in no other, where so many are open before the pieces
abbrev pub elements_at : ℕ → List Piece → ℕ
elements_at depth [] = 0
elements_at zero (start_tag name ats ∷ ps) = 1 + elements_at 1 ps
elements_at (suc depth) (start_tag name ats ∷ ps) = elements_at (suc (suc depth)) ps
elements_at zero (end_tag name ∷ ps) = elements_at zero ps
elements_at (suc depth) (end_tag name ∷ ps) = elements_at depth ps
elements_at zero (characters cs ∷ ps) = elements_at zero ps
elements_at (suc depth) (characters cs ∷ ps) = elements_at (suc depth) ps

-- how many characters stand in no element
abbrev pub characters_at : ℕ → List Piece → ℕ
characters_at depth [] = 0
characters_at zero (start_tag name ats ∷ ps) = characters_at 1 ps
characters_at (suc depth) (start_tag name ats ∷ ps) = characters_at (suc (suc depth)) ps
characters_at zero (end_tag name ∷ ps) = characters_at zero ps
characters_at (suc depth) (end_tag name ∷ ps) = characters_at depth ps
characters_at zero (characters cs ∷ ps) = length cs + characters_at zero ps
characters_at (suc depth) (characters cs ∷ ps) = characters_at (suc depth) ps

-- the attributes and pieces tell all that the codes look at
pub record IsTold (gs : Givens) : Type 0 where
  pub attribute_names : attribute_names gs ≡ names_of (attributes gs)
  pub value_characters : value_characters gs ≡ values_of (attributes gs)
  pub content_names : content_names gs ≡ flat_map piece_names (pieces gs)
  pub content_characters : content_characters gs ≡ flat_map piece_characters (pieces gs)
  pub content_attributes : content_attributes gs ≡ flat_map piece_attributes (pieces gs)
  pub element_count : element_count gs ≡ elements_at 0 (pieces gs)
  pub character_count : character_count gs ≡ characters_at 0 (pieces gs)
