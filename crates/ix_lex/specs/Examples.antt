-- Tokens of the worked examples.
use Rattle.std.specs.Prelude.{true, false}
use Rattle.ix_lex.specs.declared.token.Tok.TheVariants.{Word, Punct}
use Rattle.ix_lex.specs.declared.token.Token.{Token}
use Rattle.ix_spelling_laws.specs.Reading.Lexing as lexing

-- the `S` of `S:`
abbrev pub name : Token
name = record { kind = Word; low = 0; high = 1 }

-- the `:` of `S:`
abbrev pub colon : Token
colon = record { kind = Punct; low = 1; high = 2 }

-- `+` with no spacing before it
abbrev pub close_plus : lexing.Token
close_plus = record { gap = false; lexeme = lexing.plus }

-- `+` with some
abbrev pub apart_plus : lexing.Token
apart_plus = record { gap = true; lexeme = lexing.plus }

-- `++` with none
abbrev pub close_pluses : lexing.Token
close_pluses = record { gap = false; lexeme = lexing.pluses }
