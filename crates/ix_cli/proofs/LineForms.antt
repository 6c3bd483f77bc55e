-- Lines as they are written and as the table has them.
use Rattle.std.proofs.Common.{◌≡◌, ap, sym, ◌∙◌, ℕ, List, ◌∷◌, [], ◌++◌, append_assoc}
use Rattle.std.specs.Prelude.{codes, decimal}
use Rattle.ix_model.specs.Grammars.Breach.{version, range}
use Rattle.ix_model.specs.Answers.Outcome.{grammar_not_utf8, not_conforming, text_not_utf8, refused, hexadecimal, message_of}
use Rattle.ix_model.specs.Documents.Dyn.{attribute_at_top, not_one_element, bad_name, same_attribute, bad_character}
use Rattle.ix_model.specs.Documents.Xml.{name_bytes}

-- ---- files

pub grammar_line : (valid : ℕ) → codes "ixml: " ++ (codes "grammar" ++ (codes " is not UTF-8 after " ++ (decimal valid ++ codes " bytes\n"))) ≡ message_of (grammar_not_utf8 valid)
grammar_line valid = ap (λ l. codes "ixml: grammar is not UTF-8 after " ++ l) (sym (append_assoc (decimal valid) (codes " bytes") (10 ∷ [])))

pub text_line : (valid : ℕ) → codes "ixml: " ++ (codes "text" ++ (codes " is not UTF-8 after " ++ (decimal valid ++ codes " bytes\n"))) ≡ message_of (text_not_utf8 valid)
text_line valid = ap (λ l. codes "ixml: text is not UTF-8 after " ++ l) (sym (append_assoc (decimal valid) (codes " bytes") (10 ∷ [])))

-- ---- grammars that do not conform

pub version_line : (text : List ℕ) → codes "ixml: G02: version \"" ++ (name_bytes text ++ codes "\"\n") ≡ message_of (not_conforming (version text))
version_line text = ap (λ l. codes "ixml: G02: version \"" ++ l) (sym (append_assoc (name_bytes text) (codes "\"") (10 ∷ [])))

pub range_line : (low high : ℕ) → codes "ixml: G04: range from #" ++ (hexadecimal low ++ (codes " to #" ++ (hexadecimal high ++ codes "\n"))) ≡ message_of (not_conforming (range low high))
range_line low high = ap (λ l. codes "ixml: G04: range from #" ++ l) (sym (append_assoc (hexadecimal low) (codes " to #" ++ hexadecimal high) (10 ∷ [])))

-- ---- derivations that are no documents

pub attribute_line : (name : List ℕ) → codes "ixml: E01: attribute " ++ (name_bytes name ++ codes " at the top\n") ≡ message_of (refused (attribute_at_top name))
attribute_line name = ap (λ l. codes "ixml: E01: attribute " ++ l) (sym (append_assoc (name_bytes name) (codes " at the top") (10 ∷ [])))

pub top_line : (elements characters : ℕ) →
    codes "ixml: E02: " ++ (decimal elements ++ (codes " elements and " ++ (decimal characters ++ codes " characters at the top\n"))) ≡ message_of (refused (not_one_element elements characters))
top_line elements characters =
    ap (λ l. codes "ixml: E02: " ++ (decimal elements ++ (codes " elements and " ++ l))) (sym (append_assoc (decimal characters) (codes " characters at the top") (10 ∷ [])))
    ∙ ap (λ l. codes "ixml: E02: " ++ l) (sym (append_assoc (decimal elements) (codes " elements and " ++ (decimal characters ++ codes " characters at the top")) (10 ∷ [])))

pub name_line : (name : List ℕ) → codes "ixml: E03: " ++ (name_bytes name ++ codes " is no XML name\n") ≡ message_of (refused (bad_name name))
name_line name = ap (λ l. codes "ixml: E03: " ++ l) (sym (append_assoc (name_bytes name) (codes " is no XML name") (10 ∷ [])))

pub twice_line : (name : List ℕ) → codes "ixml: E05: attribute " ++ (name_bytes name ++ codes " twice\n") ≡ message_of (refused (same_attribute name))
twice_line name = ap (λ l. codes "ixml: E05: attribute " ++ l) (sym (append_assoc (name_bytes name) (codes " twice") (10 ∷ [])))

pub character_line : (c : ℕ) → codes "ixml: E06: character #" ++ (hexadecimal c ++ codes " is not allowed in XML\n") ≡ message_of (refused (bad_character c))
character_line c = ap (λ l. codes "ixml: E06: character #" ++ l) (sym (append_assoc (hexadecimal c) (codes " is not allowed in XML") (10 ∷ [])))
