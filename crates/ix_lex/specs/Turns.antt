-- How far the tokens of the characters have been found.
use Rattle.std.specs.Prelude.{◌≡◌, ℕ, ◌<◌, ◌≤◌, List, ◌++◌, length, drop, Option, Some, None}
use Rattle.ix_lex.specs.declared.token.Token.{Token}
use Rattle.ix_lex.specs.Spans.{AreTokens, lexeme_of}
use Rattle.ix_spelling_laws.specs.Reading.Lexing as lexing
use Rattle.ix_spelling_laws.specs.Reading.Lexing.{after, next, Lexes}

-- this token stands at a place among the characters
pub record IsAt (c : List ℕ) (low : ℕ) (t : Token) : Type 0 where
  pub starts : t.low ≡ low
  pub some : low < t.high
  pub within : t.high ≤ length c
  pub read : next (drop low c) ≡ Some (lexeme_of c t, drop t.high c)

-- this token stands at a place, or none begins there
abbrev pub IsTokenAt : List ℕ → ℕ → Option Token → Type 0
IsTokenAt c low None = next (drop low c) ≡ None
IsTokenAt c low (Some t) = IsAt c low t

-- the tokens before a place are found, and no spacing begins there: with those behind it they are the tokens of the
-- characters, and where the characters are tokens and spacing, so are those behind it
pub record AreTokensBefore (c : List ℕ) (found : List Token) (at : ℕ) : Type 0 where
  pub within : at ≤ length c
  pub spaced : drop at c ≡ after (drop at c)
  pub completes : (ts : List Token) → AreTokens c at ts → AreTokens c 0 (found ++ ts)
  pub rest_lexes : (ts : List lexing.Token) → Lexes ts c → (us : List lexing.Token) × Lexes us (drop at c)
