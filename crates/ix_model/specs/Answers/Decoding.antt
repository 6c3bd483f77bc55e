-- The characters of bytes that are UTF-8. One byte order mark at the front is no character of the text.
-- Sources: The Unicode Standard, "Unicode Encoding Forms" and "Byte Order Mark"; that it is dropped is this project's own.
use Rattle.std.specs.Prelude.{ℕ, List, [], ◌∷◌, if◌then◌else◌, ◌==◌}
use Rattle.std.specs.Str.{chars}

-- without the mark at the front, if there is one
abbrev pub without_mark : List ℕ → List ℕ
without_mark [] = []
without_mark (c ∷ cs) = if c == 0xFEFF then cs else c ∷ cs

-- the characters of the bytes, which are UTF-8
abbrev pub decoded : List ℕ → List ℕ
decoded bytes = without_mark (chars bytes)
