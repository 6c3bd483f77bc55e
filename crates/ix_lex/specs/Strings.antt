-- Strings that stand alone, with their quotes and nothing behind them.
use Rattle.std.specs.Prelude.{◌≡◌, ℕ, List, [], ◌∷◌, codes, IsTrue, Some}
use Rattle.std.specs.Char.{char_set_contains}
use Rattle.ix_spelling_laws.specs.Reading.Lexing.{quoted}

-- a string that begins with the quote q ends with the last of these characters
abbrev pub IsRestOfString : ℕ → List ℕ → Type 0
IsRestOfString q cs = (xs : List ℕ) × (quoted q cs ≡ Some (xs, []))

-- the characters are one string, from its first quote to its last
abbrev pub IsString : List ℕ → Type 0
IsString [] = ⊥
IsString (q ∷ cs) = IsTrue (char_set_contains (codes "\"'") q) × IsRestOfString q cs
