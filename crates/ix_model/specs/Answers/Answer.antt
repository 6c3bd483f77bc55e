-- What a command answers, where the files that it names hold what a map tells: the table of its outcomes, each with all that it comes from.
-- The first that applies is the answer: each says that those before it do not.
-- Source: Invisible XML 1.0, "Parsing" and "Conformance"; the limits, the order and the statuses are this project's own.
use Rattle.std.specs.Prelude.{◌≡◌, ◌⊎◌, ℕ, ◌<◌, ◌≤◌, List, length, Option, Some, IsUtf8}
use Rattle.std.specs.Str.Lossy.{utf8_valid_len}
use Rattle.ix_model.specs.declared.grammar.Grammar.{Grammar}
use Rattle.ix_model.specs.declared.state.State.{State}
use Rattle.ix_model.specs.declared.state.State.TheVariants.{Single, Ambiguous as Several}
use Rattle.ix_model.specs.Closure.Figures.{IsCounted}
use Rattle.ix_model.specs.Expansion.Parts.{Parts}
use Rattle.ix_model.specs.Derivations.Trees.{Tree}
use Rattle.ix_model.specs.Derivations.Derives.{IsDerivation, Ambiguous}
use Rattle.ix_model.specs.Derivations.Order.{First}
use Rattle.ix_model.specs.Documents.Gives.{Givens, gives_root}
use Rattle.ix_model.specs.Documents.Xml.{xml}
use Rattle.ix_model.specs.Answers.Limits.{grammar_limit, text_limit, depth_limit}
use Rattle.ix_model.specs.Answers.Decoding.{decoded}
use Rattle.ix_model.specs.Spelling.Spells.{Spells}
use Rattle.ix_model.specs.Spelling.Depth.{depth}
use Rattle.ix_model.specs.Grammars.Breach.{Fault, Breach, LeastBreach}
use Rattle.ix_model.specs.Documents.Dyn.{Dyn, HasNoRefusal}
use Rattle.ix_model.specs.Derivations.Offset.{Offset}
use Rattle.ix_model.specs.Answers.Places.{line_of, column_of}
use Rattle.ix_model.specs.Answers.CommandLine.{Command, parse, check, sample, IsCommand, HasNoForm}
use Rattle.ix_model.specs.Answers.Sample.{sample_grammar, sample_text}
use Rattle.ix_model.specs.Answers.Outcome.{Outcome, no_form, grammar_too_long, grammar_not_utf8, no_grammar, too_deep, not_conforming, conforms, text_too_long, text_not_utf8, failed, refused, document, summarised, status_of, output_of, message_of}

-- the bytes are UTF-8, and not more than the limit
abbrev pub IsText : ℕ → List ℕ → Type 0
IsText limit bytes = (length bytes ≤ limit) × IsUtf8 bytes

-- the bytes spell the grammar, and it is not too deep
abbrev pub HoldsGrammar : List ℕ → Grammar → Type 0
HoldsGrammar bytes g = IsText grammar_limit bytes × Spells (decoded bytes) g × (depth g ≤ depth_limit)

-- the bytes spell a conforming grammar
abbrev pub HoldsConforming : List ℕ → Grammar → Type 0
HoldsConforming bytes g = HoldsGrammar bytes g × ((fault : Fault) → ¬ (Breach g fault))

-- the bytes are no conforming grammar, and this is why
abbrev pub GrammarRefused : List ℕ → Outcome → Type 0
GrammarRefused bytes grammar_too_long = grammar_limit < length bytes
GrammarRefused bytes (grammar_not_utf8 valid) = (length bytes ≤ grammar_limit) × ¬ (IsUtf8 bytes) × (valid ≡ utf8_valid_len bytes)
GrammarRefused bytes no_grammar = IsText grammar_limit bytes × ((g : Grammar) → ¬ (Spells (decoded bytes) g))
GrammarRefused bytes too_deep = IsText grammar_limit bytes × (g : Grammar) × Spells (decoded bytes) g × (depth_limit < depth g)
GrammarRefused bytes (not_conforming fault) = (g : Grammar) × HoldsGrammar bytes g × LeastBreach g fault
GrammarRefused bytes _ = ⊥

module _ (g : Grammar) where
  -- what comes of a text under a conforming grammar: no derivation, or the first one, which is a document or is none
  abbrev pub Parsed : List ℕ → Outcome → Type 0
  Parsed s (failed offset line column) = ((d : Tree) → ¬ (IsDerivation g s d)) × Offset g s offset × (line ≡ line_of s offset) × (column ≡ column_of s offset)
  Parsed s (refused code) = (d : Tree) × First g s d × Dyn (gives_root s g d) code
  Parsed s (document gs Several) = (d : Tree) × First g s d × (gs ≡ gives_root s g d) × HasNoRefusal gs × Ambiguous g s
  Parsed s (document gs Single) = (d : Tree) × First g s d × (gs ≡ gives_root s g d) × HasNoRefusal gs × ¬ (Ambiguous g s)
  Parsed s _ = ⊥

  -- what comes of the bytes of a text
  abbrev pub TextAnswered : List ℕ → Outcome → Type 0
  TextAnswered bytes text_too_long = text_limit < length bytes
  TextAnswered bytes (text_not_utf8 valid) = (length bytes ≤ text_limit) × ¬ (IsUtf8 bytes) × (valid ≡ utf8_valid_len bytes)
  TextAnswered bytes outcome = IsText text_limit bytes × Parsed (decoded bytes) outcome

  -- what comes of the bytes of a text where its figures are asked for: those of its document, or what it has in place of one
  abbrev pub Measured : List ℕ → Outcome → Type 0
  Measured bytes (document gs state) = ⊥
  Measured bytes (summarised text counts output) =
      (gs : Givens) × (state : State) × TextAnswered bytes (document gs state) × (plan : Parts) × IsCounted g (decoded bytes) plan counts
      × (text ≡ length bytes) × (output ≡ length (xml gs state))
  Measured bytes outcome = TextAnswered bytes outcome

-- what comes of a command where the files hold what the map tells
abbrev pub CommandAnswered : (map : List ℕ → Option (List ℕ)) → Command → Outcome → Type 0
-- the grammar is refused, or the text is answered under it; a text under a grammar that is refused is not looked at
CommandAnswered map (parse grammar text workers) outcome = (bytes : List ℕ) × (map grammar ≡ Some bytes) × (
    GrammarRefused bytes outcome
    ⊎ ((g : Grammar) × HoldsConforming bytes g × (s : List ℕ) × (map text ≡ Some s) × TextAnswered g s outcome))
-- the grammar is refused, or it conforms
CommandAnswered map (check name) outcome = (bytes : List ℕ) × (map name ≡ Some bytes) × (
    GrammarRefused bytes outcome
    ⊎ ((g : Grammar) × HoldsConforming bytes g × (outcome ≡ conforms)))
-- the figures of the sample's text under its grammar; no file is looked at
CommandAnswered map (sample lines workers) outcome = (g : Grammar) × HoldsConforming sample_grammar g × Measured g (sample_text lines) outcome

module _ (words : List (List ℕ)) (map : List ℕ → Option (List ℕ)) where
  -- what comes of the words
  abbrev pub Answered : Outcome → Type 0
  Answered outcome = (HasNoForm words × (outcome ≡ no_form)) ⊎ ((command : Command) × IsCommand words command × CommandAnswered map command outcome)

  -- the status, the output and the message, which is empty where there is none
  abbrev pub Answer : (status : ℕ) (output message : List ℕ) → Type 0
  Answer status output message = (outcome : Outcome) × Answered outcome × (status ≡ status_of outcome) × (output ≡ output_of outcome) × (message ≡ message_of outcome)
