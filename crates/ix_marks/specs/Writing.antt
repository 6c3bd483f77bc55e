-- The bytes of the pieces, one piece after the other. A start tag is left open until it shows whether content follows.
-- Source: XML 1.0 (Fifth Edition), "Start-Tags, End-Tags, and Empty-Element Tags".
use Rattle.std.specs.Prelude.{ℕ, Bool, true, false, List, [], ◌∷◌, ◌++◌, codes}
use Rattle.std.specs.List.{flat_map}
use Rattle.ix_model.specs.Documents.Xml.{content_bytes, name_bytes, attribute_bytes, state_bytes}
use Rattle.ix_model.specs.declared.state.State.{State}
use Rattle.ix_marks.specs.Pieces.{Attribute, Piece, start_tag, end_tag, characters}

-- the attributes of a start tag
abbrev pub attributes_written : List Attribute → List ℕ
attributes_written ats = flat_map (λ (a : Attribute). attribute_bytes a.name a.value) ats

-- the bytes of the pieces, where a start tag is open before them or not
abbrev pub written : (tag_open : Bool) → List Piece → List ℕ
written tag_open [] = []
written false (start_tag name ats ∷ ps) = codes "<" ++ (name_bytes name ++ (attributes_written ats ++ written true ps))
written true (start_tag name ats ∷ ps) = codes ">" ++ (codes "<" ++ (name_bytes name ++ (attributes_written ats ++ written true ps)))
written false (end_tag name ∷ ps) = codes "</" ++ (name_bytes name ++ (codes ">" ++ written false ps))
written true (end_tag name ∷ ps) = codes "/>" ++ written false ps
written false (characters cs ∷ ps) = flat_map content_bytes cs ++ written false ps
written true (characters cs ∷ ps) = codes ">" ++ (flat_map content_bytes cs ++ written false ps)

-- the document of the pieces: the first is the root's start tag, which has the words of the state before its attributes
abbrev pub document : State → List Piece → List ℕ
document state (start_tag name ats ∷ ps) = (codes "<" ++ (name_bytes name ++ ((state_bytes state ++ attributes_written ats) ++ written true ps))) ++ 10 ∷ []
document state (end_tag name ∷ ps) = []
document state (characters cs ∷ ps) = []
document state [] = []

-- a run has a character
abbrev pub IsSolid : Piece → Type 0
IsSolid (start_tag name ats) = Unit {0}
IsSolid (end_tag name) = Unit {0}
IsSolid (characters []) = ⊥
IsSolid (characters (c ∷ cs)) = Unit {0}
