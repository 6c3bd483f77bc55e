-- What the items and attributes of a marked tree say, in names and characters.
use Rattle.std.specs.Prelude.{ℕ, List, [], map, get_or}
use Rattle.ix_marks.specs.declared.item.Item.{Item}
use Rattle.ix_marks.specs.declared.item.Item.TheVariants.{Begin, Close, Chars}
use Rattle.ix_marks.specs.declared.item.Attr.{Attr}
use Rattle.ix_marks.specs.Pieces.{Attribute, Piece, start_tag, end_tag, characters}
use Rattle.ix_marks.specs.Ranges.{range_of}

module _ (names : List (List ℕ)) where
  -- the name with its number, and the range of the characters as its value
  abbrev pub attribute_of : List ℕ → Attr → Attribute
  attribute_of chars attr = record { name = get_or names attr.name []; value = range_of chars attr.low attr.high }

  -- a start tag with the range of the attributes, an end tag, or the range of the characters
  abbrev pub piece_of : List Attr → List ℕ → Item → Piece
  piece_of attrs chars (Begin name low high) = start_tag (get_or names name []) (map (attribute_of chars) (range_of attrs low high))
  piece_of attrs chars (Close name) = end_tag (get_or names name [])
  piece_of attrs chars (Chars low high) = characters (range_of chars low high)
