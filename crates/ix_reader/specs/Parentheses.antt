-- The parentheses among the tokens of a grammar, and how many are open at once.
use Rattle.std.specs.Prelude.{ℕ, ◌+◌, ◌-◌, max, List, [], ◌∷◌}
use Rattle.ix_spelling_laws.specs.Reading.Lexing.{Lexeme, Token, open_group, close_group}

-- how many are open behind the token, where n are open before it
abbrev pub turn : ℕ → Lexeme → ℕ
turn n open_group = n + 1
turn n close_group = n - 1
turn n _ = n

-- the most that are open at once behind one of the tokens, where n are open before them
abbrev pub deepest : ℕ → List Token → ℕ
deepest n [] = 0
deepest n (t ∷ ts) = max (turn n t.lexeme) (deepest (turn n t.lexeme) ts)
