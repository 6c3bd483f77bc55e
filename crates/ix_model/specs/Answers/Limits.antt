-- The limits of files and of nesting. They are this project's own.
use Rattle.std.specs.Prelude.{ℕ}

-- the bytes of a grammar file, at most
abbrev pub grammar_limit : ℕ
grammar_limit = 1048576

-- the bytes of a text, at most
abbrev pub text_limit : ℕ
text_limit = 16777216

-- the parentheses that may stand open at once
abbrev pub depth_limit : ℕ
depth_limit = 100
