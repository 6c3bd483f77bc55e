-- Lines and columns of a text, both counted from 1. A line ends with a line feed; a carriage return is a character like others.
-- Source: this project's own.
use Rattle.std.specs.Prelude.{ℕ, ◌+◌, Bool, not, ◌==◌, List, length, count_by, take, take_while, reverse}

-- whether the character is a line feed
abbrev pub is_line_feed : ℕ → Bool
is_line_feed c = c == 10

-- the line behind these characters: 1 and the number of line feeds
abbrev pub line_after : List ℕ → ℕ
line_after before = 1 + count_by is_line_feed before

-- the column behind these characters: 1 and the number of characters since the last line feed, or since the beginning
abbrev pub column_after : List ℕ → ℕ
column_after before = 1 + length (take_while (λ c. not (is_line_feed c)) (reverse before))

-- the line of an offset in the text
abbrev pub line_of : List ℕ → ℕ → ℕ
line_of s offset = line_after (take offset s)

-- the column of an offset in the text
abbrev pub column_of : List ℕ → ℕ → ℕ
column_of s offset = column_after (take offset s)
