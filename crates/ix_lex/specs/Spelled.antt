-- Tokens as what is spelled: a relation between characters, which says nothing of an order of reading.
use Rattle.std.specs.Prelude.{◌≡◌, ℕ, false, nat_lt, List, [], ◌∷◌, length, drop}
use Rattle.ix_model.specs.Spelling.Spacing.{Spacing}
use Rattle.ix_model.specs.Spelling.Spells.{is_hex_digit}
use Rattle.ix_lex.specs.declared.token.Token.{Token}
use Rattle.ix_lex.specs.Spans.{lexeme_of}
use Rattle.ix_spelling_laws.specs.Reading.Lexing as lexing
use Rattle.ix_spelling_laws.specs.Reading.Lexing.{Lexeme, quote, hex, star, plus}
use Rattle.ix_spelling_laws.specs.Reading.Tokens.{TokenAt}

-- The token with which b begins ends before r, and not sooner than it can: behind a string stands no other quote of its kind, behind
-- a number no digit, behind `*` no `*`, and behind `+` no `+`. Where a name ends is said by what a name is.
abbrev pub EndsBefore : List ℕ → List ℕ → Lexeme → Type 0
EndsBefore b r (quote xs) = (q : ℕ) (c d : List ℕ) → b ≡ q ∷ c → r ≡ q ∷ d → ⊥
EndsBefore b r (hex ds) = (x : ℕ) (d : List ℕ) → r ≡ x ∷ d → is_hex_digit x ≡ false
EndsBefore b r star = (d : List ℕ) → r ≡ 42 ∷ d → ⊥
EndsBefore b r plus = (d : List ℕ) → r ≡ 43 ∷ d → ⊥
EndsBefore b r _ = Unit {0}

-- b is the token, as long as it can be, and then r
abbrev pub WholeTokenAt : List ℕ → List ℕ → Lexeme → Type 0
WholeTokenAt b r k = TokenAt b r k × EndsBefore b r k

-- the characters are the tokens, with spacing alone before, between and behind them; each says whether some stands before it
abbrev pub AreSpelled : List lexing.Token → List ℕ → Type 0
AreSpelled [] c = Spacing c []
AreSpelled (t ∷ ts) c =
    (b r : List ℕ) × Spacing c b × (t.gap ≡ nat_lt (length b) (length c)) × WholeTokenAt b r t.lexeme × AreSpelled ts r

-- the same of tokens by their spans, among the characters c from a place on
abbrev pub StandIn : List ℕ → ℕ → List Token → Type 0
StandIn c from [] = Spacing (drop from c) []
StandIn c from (t ∷ ts) =
    Spacing (drop from c) (drop t.low c) × WholeTokenAt (drop t.low c) (drop t.high c) (lexeme_of c t) × StandIn c t.high ts
