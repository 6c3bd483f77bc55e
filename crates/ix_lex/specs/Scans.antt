-- Single steps over the characters: where spacing, words and numbers end, and what a string's characters add to its content.
use Rattle.std.specs.Prelude.{ℕ, Bool, true, not, ◌&&◌, ◌||◌, ◌==◌, if◌then◌else◌, ◌+◌, ◌-◌, List, [], ◌∷◌, ◌++◌}
use Rattle.std.specs.Char.{char_set_contains}
use Rattle.ix_model.specs.Spelling.Characters.{is_blank, is_name_part}
use Rattle.ix_model.specs.Spelling.Words.{gives_back, ends_run}
use Rattle.ix_spelling_laws.specs.Reading.Lexing.{after}

-- whether a word ends before the characters
abbrev pub ends_word : List ℕ → Bool
ends_word [] = true
ends_word (x ∷ c) = not (is_name_part x) || ((x == 46) && (ends_run c && gives_back (after c)))

-- how many comments are open behind x, where n are open before it
abbrev pub deeper : ℕ → ℕ → ℕ
deeper n x = if x == 123 then n + 1 else (if x == 125 then n - 1 else n)

-- where the outermost open comment begins: here, where x opens it
abbrev pub opening : ℕ → ℕ → ℕ → ℕ → ℕ
opening n x at saved = if (n == 0) && (x == 123) then at else saved

-- whether x is neither a blank nor the beginning of a comment
abbrev pub is_solid : ℕ → Bool
is_solid x = not (is_blank x) && not (x == 123)

-- whether spacing ends at x, where n comments are open
abbrev pub leaves : ℕ → ℕ → Bool
leaves n x = (n == 0) && is_solid x

-- the content so far with x behind it, if x is wanted
abbrev pub added : List ℕ → ℕ → Bool → List ℕ
added out x wanted = if wanted then out ++ x ∷ [] else out

-- whether x may not stand in a string between quotes q; a quote came just before, or not
abbrev pub breaks : Bool → ℕ → ℕ → Bool
breaks pending q x = not pending && (not (x == q) && char_set_contains (10 ∷ 13 ∷ []) x)
