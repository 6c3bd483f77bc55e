-- The units of a document, one after the other: what is due before a piece, and then its own. A start tag is left open until the next
-- piece shows whether content follows.
-- Source: XML 1.0 (Fifth Edition), "Start-Tags, End-Tags, and Empty-Element Tags".
use Rattle.std.specs.Prelude.{ℕ, Bool, true, false, List, [], ◌∷◌, ◌++◌, codes, map, encode_utf8, if◌then◌else◌}
use Rattle.std.specs.List.{flat_map}
use Rattle.ix_model.specs.Documents.Xml.{content_bytes, value_bytes}
use Rattle.ix_marks.specs.Pieces.{Attribute, Piece, start_tag, end_tag, characters}
use Rattle.ix_serial.specs.declared.unit.Unit.{Unit}
use Rattle.ix_serial.specs.declared.unit.Unit.TheVariants.{Char, Markup}

-- the bytes of a unit
abbrev pub unit_bytes : Unit → List ℕ
unit_bytes (Char c) = encode_utf8 c
unit_bytes (Markup text) = text.now

-- a name, character by character
abbrev pub name_units : List ℕ → List (List ℕ)
name_units name = map encode_utf8 name

-- a space, the name, and the value in quotes
abbrev pub attribute_units : Attribute → List (List ℕ)
attribute_units a = codes " " ∷ (name_units a.name ++ (codes "=\"" ∷ (map value_bytes a.value ++ (codes "\"" ∷ []))))

-- what is due before the name of an element that begins
abbrev pub start_mark : (tag_open : Bool) → List ℕ
start_mark tag_open = if tag_open then codes "><" else codes "<"

-- the units of a piece, where a start tag is open before it or not; an element that begins has the words before its attributes
abbrev pub piece_units : (words : List ℕ) (tag_open : Bool) → Piece → List (List ℕ)
piece_units words tag_open (start_tag name ats) = start_mark tag_open ∷ (name_units name ++ (words ∷ flat_map attribute_units ats))
piece_units words true (end_tag name) = codes "/>" ∷ []
piece_units words false (end_tag name) = codes "</" ∷ (name_units name ++ (codes ">" ∷ []))
piece_units words tag_open (characters cs) = (if tag_open then codes ">" ∷ [] else []) ++ map content_bytes cs

-- whether a start tag is open behind the piece
abbrev pub opens_tag : Piece → Bool
opens_tag (start_tag name ats) = true
opens_tag (end_tag name) = false
opens_tag (characters cs) = false

-- the words that are left behind a piece: the first start tag has them
abbrev pub words_behind : (words : List ℕ) → Piece → List ℕ
words_behind words (start_tag name ats) = []
words_behind words (end_tag name) = words
words_behind words (characters cs) = words

-- the units of the pieces, where the first start tag has the words, and of the line feed behind them
abbrev pub document_units : (words : List ℕ) (tag_open : Bool) → List Piece → List (List ℕ)
document_units words tag_open [] = codes "\n" ∷ []
document_units words tag_open (p ∷ ps) = piece_units words tag_open p ++ document_units (words_behind words p) (opens_tag p) ps
