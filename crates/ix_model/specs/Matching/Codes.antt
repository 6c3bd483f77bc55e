-- The number of a character that is written in hexadecimal digits, and the characters that a literal stands for.
-- Source: Invisible XML 1.0, "Literals" (encoded characters).
use Rattle.std.specs.Prelude.{ℕ, List, [], ◌∷◌}
use Rattle.std.specs.Str.Parse.{digits_value}
use Rattle.ix_model.specs.declared.grammar.Chars.{Chars}
use Rattle.ix_model.specs.declared.grammar.Chars.TheVariants as chars
use Rattle.ix_model.specs.declared.grammar.Bound.{Bound}
use Rattle.ix_model.specs.declared.grammar.Bound.TheVariants as bound

-- the value of digits in base 16
abbrev pub code_value : List ℕ → ℕ
code_value digits = digits_value 16 digits

-- the characters that a literal or an insertion stands for
abbrev pub characters : Chars → List ℕ
characters (chars.Quoted text) = text
characters (chars.Code digits) = code_value digits ∷ []

-- the character that a bound of a range stands for
abbrev pub bound_value : Bound → ℕ
bound_value (bound.Quoted c) = c
bound_value (bound.Code digits) = code_value digits
