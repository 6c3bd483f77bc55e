-- Tokens by their spans: what each stands for, and how they lie among the characters.
use Rattle.std.specs.Prelude.{◌≡◌, ℕ, ◌-◌, ◌<◌, ◌≤◌, nat_lt, ◌==◌, if◌then◌else◌, List, [], ◌∷◌, length, take, drop, Some, option_map, unwrap_or}
use Rattle.ix_lex.specs.declared.token.Tok.{Tok}
use Rattle.ix_lex.specs.declared.token.Tok.TheVariants as tok
use Rattle.ix_lex.specs.declared.token.Token.{Token}
use Rattle.ix_spelling_laws.specs.Reading.Lexing as lexing
use Rattle.ix_spelling_laws.specs.Reading.Lexing.{Lexeme, after, next, quoted, mark_of}

-- the content of a string that stands with its quotes; no token is another list of characters
abbrev pub content : List ℕ → List ℕ
content [] = []
content (q ∷ cs) = unwrap_or (option_map (λ v. v.0) (quoted q cs)) []

-- the mark of one character
abbrev pub mark : ℕ → Lexeme
mark x = if x == 42 then lexing.star else (if x == 43 then lexing.plus else unwrap_or (mark_of x) lexing.at)

abbrev pub mark_in : List ℕ → Lexeme
mark_in [] = lexing.at
mark_in (x ∷ cs) = mark x

-- what a token of this kind and these characters stands for
abbrev pub lexeme_by : Tok → List ℕ → Lexeme
lexeme_by tok.Word cs = lexing.word cs
lexeme_by tok.Quote cs = lexing.quote (content cs)
lexeme_by tok.Hex cs = lexing.hex (drop 1 cs)
lexeme_by tok.Stars cs = lexing.stars
lexeme_by tok.Pluses cs = lexing.pluses
lexeme_by tok.Punct cs = mark_in cs

module _ (c : List ℕ) where
  -- the characters of the token
  abbrev pub chars_of : Token → List ℕ
  chars_of t = take (t.high - t.low) (drop t.low c)

  abbrev pub lexeme_of : Token → Lexeme
  lexeme_of t = lexeme_by t.kind (chars_of t)

  -- the tokens stand in the characters in order from a place on, with spacing alone before, between and behind them
  abbrev pub AreTokens : ℕ → List Token → Type 0
  AreTokens from [] = after (drop from c) ≡ []
  AreTokens from (t ∷ ts) =
      (from ≤ t.low) × (t.low < t.high) × (t.high ≤ length c)
      × (drop t.low c ≡ after (drop from c))
      × (next (drop t.low c) ≡ Some (lexeme_of t, drop t.high c))
      × AreTokens t.high ts

  -- the same tokens by what they stand for, each with whether spacing stands before it
  abbrev pub lexed : ℕ → List Token → List lexing.Token
  lexed from [] = []
  lexed from (t ∷ ts) = record { gap = nat_lt from t.low; lexeme = lexeme_of t } ∷ lexed t.high ts
