-- The tokens of a grammar's text, as a relation between characters.
use Rattle.std.specs.Prelude.{ℕ, List, codes}
use Rattle.ix_model.specs.Spelling.Spacing.{Takes}
use Rattle.ix_model.specs.Spelling.Words.{NameAt}
use Rattle.ix_model.specs.Spelling.Spells.{StringAt, HexAt}
use Rattle.ix_spelling_laws.specs.Reading.Lexing.{Lexeme, word, quote, hex, at, caret, dash, colon, equals, semi, bar, comma, stop, question, star, stars, plus, pluses, open_group, close_group, open_set, close_set, tilde}

-- b begins with a spelling of the token, and r is what follows
abbrev pub TokenAt : List ℕ → List ℕ → Lexeme → Type 0
TokenAt b r (word n) = NameAt b r n
TokenAt b r (quote xs) = StringAt b r xs
TokenAt b r (hex ds) = HexAt b r ds
TokenAt b r at = Takes (codes "@") b r
TokenAt b r caret = Takes (codes "^") b r
TokenAt b r dash = Takes (codes "-") b r
TokenAt b r colon = Takes (codes ":") b r
TokenAt b r equals = Takes (codes "=") b r
TokenAt b r semi = Takes (codes ";") b r
TokenAt b r bar = Takes (codes "|") b r
TokenAt b r comma = Takes (codes ",") b r
TokenAt b r stop = Takes (codes ".") b r
TokenAt b r question = Takes (codes "?") b r
TokenAt b r star = Takes (codes "*") b r
TokenAt b r stars = Takes (codes "**") b r
TokenAt b r plus = Takes (codes "+") b r
TokenAt b r pluses = Takes (codes "++") b r
TokenAt b r open_group = Takes (codes "(") b r
TokenAt b r close_group = Takes (codes ")") b r
TokenAt b r open_set = Takes (codes "[") b r
TokenAt b r close_set = Takes (codes "]") b r
TokenAt b r tilde = Takes (codes "~") b r
