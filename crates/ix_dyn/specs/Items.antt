-- What a reader of the items finds, one item after the other, in numbers of names and in characters; and what XML does not have.
-- Sources: XML 1.0 (Fifth Edition), "Characters" and "Common Syntactic Constructs"; Namespaces in XML 1.0, "Declaring Namespaces".
use Rattle.std.specs.Prelude.{ℕ, ◌<◌, ◌==◌, Bool, false, not, List, [], ◌∷◌, length, get_or, codes}
use Rattle.std.specs.List.{AllByRecursion, flat_map, list_any}
use Rattle.std.specs.Cmp.Lexicographic.{pointwise}
use Rattle.ix_model.specs.Documents.XmlNames.{is_xml_name, is_xml_char}
use Rattle.ix_marks.specs.declared.item.Item.{Item}
use Rattle.ix_marks.specs.declared.item.Item.TheVariants.{Begin, Close, Chars}
use Rattle.ix_marks.specs.declared.item.Attr.{Attr}
use Rattle.ix_marks.specs.Ranges.{range_of}
use Rattle.ix_marks.specs.Repeats.{numbers}

-- the names that come with an item: an element's, and its attributes'
abbrev pub item_numbers : List Attr → Item → List ℕ
item_numbers attrs (Begin name low high) = name ∷ numbers (range_of attrs low high)
item_numbers attrs (Close name) = []
item_numbers attrs (Chars low high) = []

-- the value of an attribute
abbrev pub value_of : List ℕ → Attr → List ℕ
value_of chars attr = range_of chars attr.low attr.high

-- the characters that come with an item: those of the values of its attributes, or of a run
abbrev pub item_characters : List Attr → List ℕ → Item → List ℕ
item_characters attrs chars (Begin name low high) = flat_map (value_of chars) (range_of attrs low high)
item_characters attrs chars (Close name) = []
item_characters attrs chars (Chars low high) = range_of chars low high

-- the character may not stand in a document
abbrev pub is_bad_character : ℕ → Bool
is_bad_character c = not (is_xml_char c)

-- the name is `xmlns`
abbrev pub is_xmlns : List ℕ → Bool
is_xmlns name = pointwise ◌==◌ name (codes "xmlns")

module _ (names : List (List ℕ)) where
  -- the name with this number is none of XML
  abbrev pub is_bad_number : ℕ → Bool
  is_bad_number n = not (is_xml_name (get_or names n []))

  -- the attribute has the name `xmlns`
  abbrev pub is_xmlns_attribute : Attr → Bool
  is_xmlns_attribute attr = is_xmlns (get_or names attr.name [])

  -- an attribute that comes with the item has it
  abbrev pub has_xmlns : List Attr → Item → Bool
  has_xmlns attrs (Begin name low high) = list_any is_xmlns_attribute (range_of attrs low high)
  has_xmlns attrs (Close name) = false
  has_xmlns attrs (Chars low high) = false

  -- the attributes' names are there
  abbrev pub AreNamed : List Attr → Type 0
  AreNamed attrs = AllByRecursion (λ (attr : Attr). attr.name < length names) attrs
