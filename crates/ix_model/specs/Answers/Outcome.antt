-- What can come of a command where nothing outside fails, with its status, its output and its message.
-- Source: this project's own.
use Rattle.std.specs.Prelude.{ℕ, false, List, [], ◌∷◌, ◌++◌, Option, Some, None, codes, decimal}
use Rattle.std.specs.Fmt.{digits}
use Rattle.ix_model.specs.declared.counts.Counts.{Counts}
use Rattle.ix_model.specs.declared.state.State.{State}
use Rattle.ix_model.specs.Documents.Gives.{Givens}
use Rattle.ix_model.specs.Documents.Xml.{xml, name_bytes}
use Rattle.ix_model.specs.Documents.FailedXml.{failed_xml}
use Rattle.ix_model.specs.Grammars.Breach.{Fault, version, code_point, range, class, undefined, duplicate}
use Rattle.ix_model.specs.Answers.Sample.{summary_of}
use Rattle.ix_model.specs.Documents.Dyn.{Refusal, attribute_at_top, not_one_element, bad_name, attribute_xmlns, same_attribute, bad_character}

pub data Outcome : Type 0 where
  -- the words have no form
  no_form : Outcome
  -- the grammar has too many bytes
  grammar_too_long : Outcome
  -- the grammar is not UTF-8, and this many bytes at its front are
  grammar_not_utf8 : ℕ → Outcome
  -- the characters spell no grammar
  no_grammar : Outcome
  -- the grammar has too many parentheses open at once
  too_deep : Outcome
  -- the grammar does not conform
  not_conforming : Fault → Outcome
  -- the grammar conforms, and that is all that was asked
  conforms : Outcome
  -- the text has too many bytes
  text_too_long : Outcome
  -- the text is not UTF-8, and this many bytes at its front are
  text_not_utf8 : ℕ → Outcome
  -- the text has no derivation; how far it could be read
  failed : (offset line column : ℕ) → Outcome
  -- the first derivation is no document
  refused : Refusal → Outcome
  -- the document, by what the root gives
  document : Givens → State → Outcome
  -- the figures of a text of so many bytes, with a document of so many bytes
  summarised : (text : ℕ) (counts : Counts) (output : ℕ) → Outcome

-- the exit status
abbrev pub status_of : Outcome → ℕ
status_of no_form = 2
status_of grammar_too_long = 3
status_of (grammar_not_utf8 valid) = 5
status_of no_grammar = 3
status_of too_deep = 3
status_of (not_conforming fault) = 3
status_of conforms = 0
status_of text_too_long = 6
status_of (text_not_utf8 valid) = 5
status_of (failed offset line column) = 1
status_of (refused code) = 4
status_of (document gs state) = 0
status_of (summarised text counts output) = 0

-- the bytes of the output
abbrev pub output_of : Outcome → List ℕ
output_of conforms = codes "ok\n"
output_of (failed offset line column) = failed_xml offset line column
output_of (document gs state) = xml gs state
output_of (summarised text counts output) = summary_of text counts output
output_of _ = []

-- ---- messages

-- a number in lower-case hexadecimal digits, without zeros at its front
unfoldable pub hexadecimal : ℕ → List ℕ
hexadecimal n = digits 16 false n

-- what is said of a grammar that does not conform
abbrev pub fault_text : Fault → List ℕ
fault_text (version text) = codes "G02: version \"" ++ (name_bytes text ++ codes "\"")
fault_text (code_point written) = codes "G03: no character has the number #" ++ name_bytes written
fault_text (range low high) = codes "G04: range from #" ++ (hexadecimal low ++ (codes " to #" ++ hexadecimal high))
fault_text (class name) = codes "G05: no class " ++ name_bytes name
fault_text (undefined name) = codes "G06: no rule " ++ name_bytes name
fault_text (duplicate name) = codes "G07: two rules " ++ name_bytes name

-- what is said of a derivation that is no document
abbrev pub refusal_text : Refusal → List ℕ
refusal_text (attribute_at_top name) = codes "E01: attribute " ++ (name_bytes name ++ codes " at the top")
refusal_text (not_one_element elements characters) = codes "E02: " ++ (decimal elements ++ (codes " elements and " ++ (decimal characters ++ codes " characters at the top")))
refusal_text (bad_name name) = codes "E03: " ++ (name_bytes name ++ codes " is no XML name")
refusal_text attribute_xmlns = codes "E04: attribute xmlns"
refusal_text (same_attribute name) = codes "E05: attribute " ++ (name_bytes name ++ codes " twice")
refusal_text (bad_character c) = codes "E06: character #" ++ (hexadecimal c ++ codes " is not allowed in XML")

-- what is said of an outcome; of a document, of a failed one, of figures and of a grammar that conforms nothing is
abbrev pub text_of : Outcome → Option (List ℕ)
text_of no_form = Some (codes "use parse GRAMMAR TEXT [--workers N], check GRAMMAR or sample N [--workers N]")
text_of grammar_too_long = Some (codes "G08: grammar longer than 1048576 bytes")
text_of (grammar_not_utf8 valid) = Some (codes "grammar is not UTF-8 after " ++ (decimal valid ++ codes " bytes"))
text_of no_grammar = Some (codes "G01: not an ixml grammar")
text_of too_deep = Some (codes "G09: more than 100 open parentheses")
text_of (not_conforming fault) = Some (fault_text fault)
text_of conforms = None
text_of text_too_long = Some (codes "text longer than 16777216 bytes")
text_of (text_not_utf8 valid) = Some (codes "text is not UTF-8 after " ++ (decimal valid ++ codes " bytes"))
text_of (failed offset line column) = None
text_of (refused code) = Some (refusal_text code)
text_of (document gs state) = None
text_of (summarised text counts output) = None

-- the message: the program's name, what is said, and a line feed; or nothing
abbrev pub line_with : Option (List ℕ) → List ℕ
line_with None = []
line_with (Some text) = codes "ixml: " ++ (text ++ 10 ∷ [])

abbrev pub message_of : Outcome → List ℕ
message_of outcome = line_with (text_of outcome)
