-- The token with which characters begin, as its kind and its length.
use Rattle.std.specs.Prelude.{◌≡◌, ℕ, ◌<◌, ◌≤◌, Bool, true, false, List, length, take, drop, Option, Some, None}
use Rattle.ix_lex.specs.declared.token.Tok.{Tok}
use Rattle.ix_lex.specs.Spans.{lexeme_by}
use Rattle.ix_spelling_laws.specs.Reading.Lexing.{Lexeme}

-- what is read of c as `given` is a token of this kind, and takes this many characters
pub record Stands (c : List ℕ) (given : Option (Lexeme × List ℕ)) (kind : Tok) (taken : ℕ) : Type 0 where
  pub some : 0 < taken
  pub within : taken ≤ length c
  pub read : given ≡ Some (lexeme_by kind (take taken c), drop taken c)

-- what is read of c as `given` is told by its kind and length, or there is none
abbrev pub IsFirstToken : List ℕ → Option (Lexeme × List ℕ) → Option (Tok × ℕ) → Type 0
IsFirstToken c given None = given ≡ None
IsFirstToken c given (Some v) = Stands c given v.0 v.1

-- whether there is a value
abbrev pub is_there : Option Lexeme → Bool
is_there None = false
is_there (Some k) = true
