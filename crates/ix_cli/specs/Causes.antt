-- Why a status is answered where nothing outside fails, said of the words and of what the files hold: by bytes, derivations and what these
-- give.
-- Sources: Invisible XML 1.0, "Parsing" and "Conformance"; the limits and the statuses are this project's own.
use Rattle.std.specs.Prelude.{◌≡◌, ◌⊎◌, ◌↔◌, ◌<◌, ◌≤◌, ℕ, List, length, Some, IsUtf8}
use Rattle.ix_model.specs.declared.grammar.Grammar.{Grammar}
use Rattle.ix_model.specs.Answers.Answer.{IsText, HoldsConforming}
use Rattle.ix_model.specs.Answers.CommandLine.{Command, parse, check, sample, IsCommand, HasNoForm}
use Rattle.ix_model.specs.Answers.Decoding.{decoded}
use Rattle.ix_model.specs.Answers.Limits.{grammar_limit, text_limit}
use Rattle.ix_model.specs.Answers.Sample.{sample_grammar, sample_text}
use Rattle.ix_model.specs.Derivations.Trees.{Tree}
use Rattle.ix_model.specs.Derivations.Derives.{IsDerivation}
use Rattle.ix_model.specs.Derivations.Order.{First}
use Rattle.ix_model.specs.Documents.Dyn.{Refusal, Dyn, HasNoRefusal}
use Rattle.ix_model.specs.Documents.Gives.{gives_root}
use Rattle.ix_edge.specs.Told.{Told, held}
use Rattle.ix_cli.specs.Named.{ReadsGrammar}

-- ---- of the bytes of a grammar

-- they are too many, or are characters that are no conforming grammar
abbrev pub IsNoGrammar : List ℕ → Type 0
IsNoGrammar bytes = (grammar_limit < length bytes) ⊎ (IsText grammar_limit bytes × ((g : Grammar) → ¬ (HoldsConforming bytes g)))

-- they are not too many for the limit, and not UTF-8
abbrev pub IsUndecodable : ℕ → List ℕ → Type 0
IsUndecodable limit bytes = (length bytes ≤ limit) × ¬ (IsUtf8 bytes)

-- ---- of a conforming grammar and the bytes of a text

-- the first derivation is a document
abbrev pub GivesDocument : Grammar → List ℕ → Type 0
GivesDocument g s = IsText text_limit s × ((d : Tree) × First g (decoded s) d × HasNoRefusal (gives_root (decoded s) g d))

-- there is no derivation
abbrev pub GivesNothing : Grammar → List ℕ → Type 0
GivesNothing g s = IsText text_limit s × ((d : Tree) → ¬ (IsDerivation g (decoded s) d))

-- the first derivation is no document
abbrev pub GivesNoDocument : Grammar → List ℕ → Type 0
GivesNoDocument g s = IsText text_limit s × ((d : Tree) × First g (decoded s) d × ((code : Refusal) × Dyn (gives_root (decoded s) g d) code))

-- ---- of words and files

-- the command parses this text under this grammar
abbrev pub Parses : Told → Command → Grammar → List ℕ → Type 0
Parses files (parse grammar text workers) g s = (bytes : List ℕ) × (held files grammar ≡ Some bytes) × HoldsConforming bytes g × (held files text ≡ Some s)
Parses files (check grammar) g s = ⊥
Parses files (sample lines workers) g s = HoldsConforming sample_grammar g × (s ≡ sample_text lines)

module _ (words : List (List ℕ)) (files : Told) where
  -- the words name a grammar file, and this is true of its bytes
  abbrev pub OfGrammar : (List ℕ → Type 0) → Type 0
  OfGrammar P = (command : Command) × IsCommand words command × (name bytes : List ℕ) × ReadsGrammar command name × (held files name ≡ Some bytes) × P bytes

  -- the words ask for the parse of a text under a grammar, and this is true of the grammar and of the text's bytes
  abbrev pub OfText : (Grammar → List ℕ → Type 0) → Type 0
  OfText P = (command : Command) × IsCommand words command × (g : Grammar) × (s : List ℕ) × Parses files command g s × P g s

  -- the words ask whether the bytes of a file are a conforming grammar, and they are
  abbrev pub IsChecked : Type 0
  IsChecked = (name bytes : List ℕ) × (g : Grammar) × IsCommand words (check name) × (held files name ≡ Some bytes) × HoldsConforming bytes g

  -- the grammar is not UTF-8, or the text is not
  abbrev pub IsNotUtf8 : Type 0
  IsNotUtf8 = OfGrammar (IsUndecodable grammar_limit) ⊎ OfText (λ g s. IsUndecodable text_limit s)

  -- each status from 0 to 6 is this one exactly where its cause holds
  pub record IsCaused (status : ℕ) : Type 0 where
    pub done : (status ≡ 0) ↔ (OfText GivesDocument ⊎ IsChecked)
    pub no_derivation : (status ≡ 1) ↔ OfText GivesNothing
    pub no_form : (status ≡ 2) ↔ HasNoForm words
    pub no_grammar : (status ≡ 3) ↔ OfGrammar IsNoGrammar
    pub no_document : (status ≡ 4) ↔ OfText GivesNoDocument
    pub not_utf8 : (status ≡ 5) ↔ IsNotUtf8
    pub too_long : (status ≡ 6) ↔ OfText (λ g s. text_limit < length s)
