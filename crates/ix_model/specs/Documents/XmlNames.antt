-- The names and characters of XML.
-- Source: XML 1.0 (Fifth Edition), productions [2] Char, [4] NameStartChar, [4a] NameChar and [5] Name.
use Rattle.std.specs.Prelude.{ℕ, Bool, false, ◌&&◌, ◌||◌, nat_le, List, [], ◌∷◌}
use Rattle.std.specs.List.{list_all}

-- whether some range has c, both of its bounds included
abbrev pub is_in : List (ℕ × ℕ) → ℕ → Bool
is_in [] c = false
is_in (range ∷ ranges) c = (nat_le range.0 c && nat_le c range.1) || is_in ranges c

-- `:`, `A` to `Z`, `_`, `a` to `z`, and the letters beyond ASCII
abbrev pub name_start_ranges : List (ℕ × ℕ)
name_start_ranges =
    (0x3A, 0x3A) ∷ (0x41, 0x5A) ∷ (0x5F, 0x5F) ∷ (0x61, 0x7A) ∷ (0xC0, 0xD6) ∷ (0xD8, 0xF6) ∷ (0xF8, 0x2FF) ∷ (0x370, 0x37D)
    ∷ (0x37F, 0x1FFF) ∷ (0x200C, 0x200D) ∷ (0x2070, 0x218F) ∷ (0x2C00, 0x2FEF) ∷ (0x3001, 0xD7FF) ∷ (0xF900, 0xFDCF)
    ∷ (0xFDF0, 0xFFFD) ∷ (0x10000, 0xEFFFF) ∷ []

-- `-` and `.`, `0` to `9`, the middle dot, the combining marks and the two ties
abbrev pub name_further_ranges : List (ℕ × ℕ)
name_further_ranges = (0x2D, 0x2E) ∷ (0x30, 0x39) ∷ (0xB7, 0xB7) ∷ (0x300, 0x36F) ∷ (0x203F, 0x2040) ∷ []

-- tab, line feed, carriage return, and all others but the further controls, the surrogates, FFFE and FFFF
abbrev pub char_ranges : List (ℕ × ℕ)
char_ranges = (0x9, 0xA) ∷ (0xD, 0xD) ∷ (0x20, 0xD7FF) ∷ (0xE000, 0xFFFD) ∷ (0x10000, 0x10FFFF) ∷ []

-- whether c may begin a name
unfoldable pub is_xml_name_start : ℕ → Bool
is_xml_name_start c = is_in name_start_ranges c

-- whether c may stand within a name
unfoldable pub is_xml_name_char : ℕ → Bool
unfolding is_xml_name_start
is_xml_name_char c = is_xml_name_start c || is_in name_further_ranges c

-- whether c may stand in a document
unfoldable pub is_xml_char : ℕ → Bool
is_xml_char c = is_in char_ranges c

-- whether the characters are a name: one that may begin it, and then any that may stand within it
abbrev pub is_xml_name : List ℕ → Bool
is_xml_name [] = false
is_xml_name (c ∷ cs) = is_xml_name_start c && list_all is_xml_name_char cs
