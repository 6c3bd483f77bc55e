-- What keeps a derivation from being a document. Each reason has a code, E01 to E06, and all but E04 name an item: the first in document order,
-- which is an element's name, its attributes in order, each with its name and value, and then its content.
-- The least code that holds counts.
-- Sources: Invisible XML 1.0, "Parsing" (what is serialised must be well-formed); XML 1.0 (Fifth Edition), "Well-Formed XML Documents" and
-- "Unique Att Spec"; Namespaces in XML 1.0, "Declaring Namespaces" (`xmlns` is no attribute of one's own). The codes and their order are
-- this project's own.
use Rattle.std.specs.Prelude.{◌≡◌, ℕ, ◌+◌, ◌<◌, ◌≤◌, List, [], ◌∷◌, ◌++◌, length, Some, slice_get, codes, IsTrue}
use Rattle.ix_model.specs.Firsts.{IsFirstOf}
use Rattle.ix_model.specs.Documents.Gives.{Given, attribute, element, run, Givens, nothing, followed}
use Rattle.ix_model.specs.Documents.XmlNames.{is_xml_name, is_xml_char}

-- a code and the item that is named with it
pub data Refusal : Type 0 where
  -- E01: an attribute stands in no element
  attribute_at_top : (name : List ℕ) → Refusal
  -- E02: not exactly one element stands at the top, or a character beside it
  not_one_element : (elements characters : ℕ) → Refusal
  -- E03: the name of an element or attribute is no name of XML
  bad_name : (name : List ℕ) → Refusal
  -- E04: an attribute has the name `xmlns`
  attribute_xmlns : Refusal
  -- E05: an element has two attributes of this name
  same_attribute : (name : List ℕ) → Refusal
  -- E06: a character of the content or of a value is no character of XML
  bad_character : ℕ → Refusal

-- the number of its code, E01 to E06
abbrev pub refusal_number : Refusal → ℕ
refusal_number (attribute_at_top name) = 1
refusal_number (not_one_element elements characters) = 2
refusal_number (bad_name name) = 3
refusal_number attribute_xmlns = 4
refusal_number (same_attribute name) = 5
refusal_number (bad_character c) = 6

-- ---- what stands in a document

-- the names of the attributes that are given to one element, in order
abbrev pub attribute_names : Givens → List (List ℕ)
attribute_names nothing = []
attribute_names (followed (attribute name val) gs) = name ∷ attribute_names gs
attribute_names (followed _ gs) = attribute_names gs

-- the characters of their values, in order
abbrev pub value_characters : Givens → List ℕ
value_characters nothing = []
value_characters (followed (attribute name val) gs) = val ++ value_characters gs
value_characters (followed _ gs) = value_characters gs

-- how many elements are given, those within others not counted
abbrev pub element_count : Givens → ℕ
element_count nothing = 0
element_count (followed (element name inner) gs) = 1 + element_count gs
element_count (followed _ gs) = element_count gs

-- how many characters are given outside of elements and attributes
abbrev pub character_count : Givens → ℕ
character_count nothing = 0
character_count (followed (run cs) gs) = length cs + character_count gs
character_count (followed _ gs) = character_count gs

abbrev mutual
  -- the names in the content, at any depth, in document order
  pub content_names : Givens → List (List ℕ)
  content_names nothing = []
  content_names (followed g gs) = names_in g ++ content_names gs

  pub names_in : Given → List (List ℕ)
  names_in (attribute name val) = []
  names_in (element name inner) = name ∷ (attribute_names inner ++ content_names inner)
  names_in (run cs) = []

abbrev mutual
  -- the characters of the content and of the values in it, at any depth, in document order
  pub content_characters : Givens → List ℕ
  content_characters nothing = []
  content_characters (followed g gs) = characters_in g ++ content_characters gs

  pub characters_in : Given → List ℕ
  characters_in (attribute name val) = []
  characters_in (element name inner) = value_characters inner ++ content_characters inner
  characters_in (run cs) = cs

abbrev mutual
  -- for each element of the content, at any depth, the names of its attributes: an element is before those within it
  pub content_attributes : Givens → List (List (List ℕ))
  content_attributes nothing = []
  content_attributes (followed g gs) = attributes_in g ++ content_attributes gs

  pub attributes_in : Given → List (List (List ℕ))
  attributes_in (attribute name val) = []
  attributes_in (element name inner) = attribute_names inner ∷ content_attributes inner
  attributes_in (run cs) = []

-- all names of elements and attributes
abbrev pub all_names : Givens → List (List ℕ)
all_names gs = attribute_names gs ++ content_names gs

-- all characters of values and of the content
abbrev pub all_characters : Givens → List ℕ
all_characters gs = value_characters gs ++ content_characters gs

-- ---- what is said of names

-- the name at n stands at an earlier place too
abbrev pub IsRepeat : List (List ℕ) → ℕ → List ℕ → Type 0
IsRepeat names n name = (m : ℕ) × (m < n) × (slice_get names m ≡ Some name)

-- the names have one that stands at an earlier place too
abbrev pub HasRepeat : List (List ℕ) → Type 0
HasRepeat names = (n : ℕ) × (name : List ℕ) × (slice_get names n ≡ Some name) × IsRepeat names n name

-- the names have `xmlns`
abbrev pub HasXmlns : List (List ℕ) → Type 0
HasXmlns names = (n : ℕ) × (slice_get names n ≡ Some (codes "xmlns"))

-- ---- the codes

-- the code holds, and this is its item
abbrev pub Holds : Givens → Refusal → Type 0
Holds gs (attribute_at_top name) = slice_get (attribute_names gs) 0 ≡ Some name
Holds gs (not_one_element elements characters) =
    (elements ≡ element_count gs) × (characters ≡ character_count gs) × ¬ ((elements ≡ 1) × (characters ≡ 0))
Holds gs (bad_name name) = IsFirstOf (λ n other. ¬ (IsTrue (is_xml_name other))) (all_names gs) name
Holds gs attribute_xmlns =
    (k : ℕ) × (names : List (List ℕ)) × (slice_get (attribute_names gs ∷ content_attributes gs) k ≡ Some names) × HasXmlns names
Holds gs (same_attribute name) =
    (names : List (List ℕ)) × IsFirstOf (λ n others. HasRepeat others) (content_attributes gs) names × IsFirstOf (IsRepeat names) names name
Holds gs (bad_character c) = IsFirstOf (λ n other. ¬ (IsTrue (is_xml_char other))) (all_characters gs) c

-- the code holds with this item, and no lesser code holds
abbrev pub Dyn : Givens → Refusal → Type 0
Dyn gs code = Holds gs code × ((other : Refusal) → Holds gs other → refusal_number code ≤ refusal_number other)

-- no code holds
abbrev pub HasNoRefusal : Givens → Type 0
HasNoRefusal gs = (code : Refusal) → ¬ (Holds gs code)
