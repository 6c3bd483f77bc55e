-- The tokens of a grammar's text, as functions.
use Rattle.std.specs.Prelude.{◌≡◌, ℕ, zero, suc, Bool, true, false, ◌&&◌, ◌==◌, if◌then◌else◌, List, [], ◌∷◌, codes, Option, Some, None, length, nat_lt, option_map}
use Rattle.std.specs.Char.{char_set_contains}
use Rattle.ix_model.specs.Spelling.Characters.{is_blank, is_name_start, is_name_part}
use Rattle.ix_model.specs.Spelling.Words.{gives_back, ends_run}
use Rattle.ix_model.specs.Spelling.Spells.{is_hex_digit}

-- what a token is: a word, a string and a number with their characters, and the marks
pub data Lexeme : Type 0 where
  word : List ℕ → Lexeme
  quote : List ℕ → Lexeme
  hex : List ℕ → Lexeme
  at : Lexeme
  caret : Lexeme
  dash : Lexeme
  colon : Lexeme
  equals : Lexeme
  semi : Lexeme
  bar : Lexeme
  comma : Lexeme
  stop : Lexeme
  question : Lexeme
  star : Lexeme
  stars : Lexeme
  plus : Lexeme
  pluses : Lexeme
  open_group : Lexeme
  close_group : Lexeme
  open_set : Lexeme
  close_set : Lexeme
  tilde : Lexeme

-- where spacing ends; some comments are open, and the outermost began at `saved`
abbrev pub spaced : ℕ → List ℕ → List ℕ → List ℕ
spaced zero saved [] = []
spaced (suc n) saved [] = saved
spaced zero saved (x ∷ c) = if is_blank x then spaced zero saved c else (if x == 123 then spaced (suc zero) (x ∷ c) c else x ∷ c)
spaced (suc n) saved (x ∷ c) = if x == 123 then spaced (suc (suc n)) saved c else (if x == 125 then spaced n saved c else spaced (suc n) saved c)

-- the characters behind the longest spacing
abbrev pub after : List ℕ → List ℕ
after c = spaced zero [] c

-- whether spacing stands at the beginning
abbrev pub has_gap : List ℕ → Bool
has_gap c = nat_lt (length (after c)) (length c)

-- a value and the characters behind it
abbrev pub Read : Type 0
Read = List ℕ × List ℕ

abbrev pub push : ℕ → Read → Read
push x v = (x ∷ v.0, v.1)

-- the rest of a word: its run of name characters, without a final full stop that is not the word's
abbrev pub word_of : List ℕ → Read
word_of [] = ([], [])
word_of (x ∷ c) =
    if is_name_part x then (if (x == 46) && (ends_run c && gives_back (after c)) then ([], x ∷ c) else push x (word_of c)) else ([], x ∷ c)

abbrev pub digits_of : List ℕ → Read
digits_of [] = ([], [])
digits_of (x ∷ c) = if is_hex_digit x then push x (digits_of c) else ([], x ∷ c)

-- a string behind its first quote
abbrev mutual
  pub quoted : ℕ → List ℕ → Option Read
  quoted q [] = None
  quoted q (x ∷ c) = if x == q then closed q c else (if char_set_contains (10 ∷ 13 ∷ []) x then None else option_map (push x) (quoted q c))

  -- behind a quote within it
  pub closed : ℕ → List ℕ → Option Read
  closed q [] = Some ([], [])
  closed q (y ∷ c) = if y == q then option_map (push q) (quoted q c) else Some ([], y ∷ c)

abbrev pub begins : ℕ → List ℕ → Bool
begins x [] = false
begins x (y ∷ c) = y == x

abbrev pub rest_of : List ℕ → List ℕ
rest_of [] = []
rest_of (x ∷ c) = c

abbrev pub nonempty : List ℕ → Bool
nonempty [] = false
nonempty (x ∷ c) = true

abbrev pub hex_of : Read → Option (Lexeme × List ℕ)
hex_of v = if nonempty v.0 then Some (hex v.0, v.1) else None

-- a mark of one character
abbrev pub mark_of : ℕ → Option Lexeme
mark_of x =
    if x == 64 then Some at
    else (if x == 94 then Some caret
    else (if x == 45 then Some dash
    else (if x == 58 then Some colon
    else (if x == 61 then Some equals
    else (if x == 59 then Some semi
    else (if x == 124 then Some bar
    else (if x == 44 then Some comma
    else (if x == 46 then Some stop
    else (if x == 63 then Some question
    else (if x == 40 then Some open_group
    else (if x == 41 then Some close_group
    else (if x == 91 then Some open_set
    else (if x == 93 then Some close_set
    else (if x == 126 then Some tilde
    else None))))))))))))))

-- the token with which the characters begin
abbrev pub next : List ℕ → Option (Lexeme × List ℕ)
next [] = None
next (x ∷ c) =
    if is_name_start x then (let v = word_of (x ∷ c) in Some (word v.0, v.1))
    else (if char_set_contains (codes "\"'") x then option_map (λ v. (quote v.0, v.1)) (quoted x c)
    else (if x == 35 then hex_of (digits_of c)
    else (if x == 42 then (if begins 42 c then Some (stars, rest_of c) else Some (star, c))
    else (if x == 43 then (if begins 43 c then Some (pluses, rest_of c) else Some (plus, c))
    else option_map (λ k. (k, c)) (mark_of x)))))

-- a token, and whether spacing stands before it
pub record Token : Type 0 where
  pub gap : Bool
  pub lexeme : Lexeme

-- the characters are these tokens and spacing
abbrev pub Lexes : List Token → List ℕ → Type 0
Lexes [] c = after c ≡ []
Lexes (t ∷ ts) c = (r : List ℕ) × (t.gap ≡ has_gap c) × (next (after c) ≡ Some (t.lexeme, r)) × Lexes ts r
