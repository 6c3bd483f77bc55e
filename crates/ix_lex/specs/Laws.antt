-- Laws of tokens by their spans.
use Rattle.std.specs.Prelude.{◌≡◌, ◌↔◌, ℕ, List, [], ◌∷◌, drop}
use Rattle.ix_model.specs.Spelling.Spells.{StringAt}
use Rattle.ix_lex.specs.declared.token.Tok.TheVariants.{Quote}
use Rattle.ix_lex.specs.declared.token.Token.{Token}
use Rattle.ix_lex.specs.Spans.{AreTokens, chars_of, lexed}
use Rattle.ix_lex.specs.Spelled.{AreSpelled, StandIn}
use Rattle.ix_lex.specs.Strings.{IsString}
use Rattle.ix_spelling_laws.specs.Reading.Lexing as lexing
use Rattle.ix_spelling_laws.specs.Reading.Lexing.{Lexes}

-- what a list of spans stands for are tokens of the characters
abbrev pub SpansStandForTokens : Type 0
SpansStandForTokens = (c : List ℕ) (from : ℕ) (ts : List Token) → AreTokens c from ts → Lexes (lexed c from ts) (drop from c)

-- characters have no other tokens than those that a list of their spans stands for
abbrev pub SpansStandForAllTokens : Type 0
SpansStandForAllTokens = (c : List ℕ) (ts : List Token) (us : List lexing.Token) → AreTokens c 0 ts → Lexes us c → us ≡ lexed c 0 ts

-- characters have at most one list of kinds and spans
abbrev pub SpansAreOne : Type 0
SpansAreOne = (c : List ℕ) (from : ℕ) (ts us : List Token) → AreTokens c from ts → AreTokens c from us → ts ≡ us

-- the characters of a token that is a string are one string
abbrev pub QuotesAreStrings : Type 0
QuotesAreStrings = (c : List ℕ) (from : ℕ) (t : Token) (ts : List Token) → AreTokens c from (t ∷ ts) → t.kind ≡ Quote → IsString (chars_of c t)

-- each token stands among the characters as it is spelled, and spacing alone stands before, between and behind them
abbrev pub TokensStand : Type 0
TokensStand = (c : List ℕ) (ts : List Token) → AreTokens c 0 ts → StandIn c 0 ts

-- the lists of tokens that are read of characters are exactly those that are spelled there
abbrev pub ReadAsSpelled : Type 0
ReadAsSpelled = (c : List ℕ) (ts : List lexing.Token) → Lexes ts c ↔ AreSpelled ts c

-- the characters that may be unquoted are exactly those of one string
abbrev pub StringsAreSpelled : Type 0
StringsAreSpelled = (c : List ℕ) → IsString c ↔ ((xs : List ℕ) × StringAt c [] xs)
