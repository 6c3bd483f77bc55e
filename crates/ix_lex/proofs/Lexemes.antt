-- The token with which characters begin, told by its kind and its length.
use Rattle.std.proofs.Common.{◌≡◌, refl, sym, ap, ap₂, ◌∙◌, subst, ℕ, List, [], ◌∷◌, ◌++◌, length, ◌<◌, ◌≤◌, ◌+◌, arith, take, drop, get_or, append_assoc, length-append, length-drop, Option, Some, None}
use Rattle.std.proofs.lemmas.Bool.{eqb-true}
use Rattle.std.proofs.lemmas.List.{take_at, drop_at, drop_more}
use Rattle.std.specs.Prelude.{true, false, not, ◌==◌, if◌then◌else◌, IsTrue, option_map, codes}
use Rattle.std.specs.Char.{char_set_contains}
use Rattle.ix_model.specs.Spelling.Characters.{is_name_start}
use Rattle.ix_model.specs.Spelling.Words.{NameAt}
use Rattle.ix_model.specs.Spelling.Spells.{escaped}
use Rattle.ix_spelling_laws.specs.Reading.Lexing.{Lexeme, word, quote, star, stars, plus, pluses, Read, word_of, digits_of, hex_of, quoted, begins, rest_of, next}
use Rattle.ix_model.proofs.Booleans.{in_all, not_false}
use Rattle.ix_spelling_laws.proofs.LexemeFacts.{word_read, digits_are, string_reads, IsStringRest, string_read}
use Rattle.ix_spelling_laws.proofs.TokenFacts.{token_read}
use Rattle.ix_lex.specs.declared.token.Tok.{Tok}
use Rattle.ix_lex.specs.declared.token.Tok.TheVariants as tok
use Rattle.ix_lex.specs.Spans.{content, lexeme_by}
use Rattle.ix_lex.specs.First.{Stands, IsFirstToken}

-- a token by its own characters
pub by_characters : (c a r : List ℕ) (given : Option (Lexeme × List ℕ)) (kind : Tok) (n : ℕ) → c ≡ a ++ r → length a ≡ n → 0 < n → given ≡ Some (lexeme_by kind a, r) → Stands c given kind n
by_characters c a r given kind n e l some read =
    let p : take n c ≡ a = ap (take n) e ∙ take_at a r n l in
    let q : drop n c ≡ r = ap (drop n) e ∙ drop_at a r n l in
    record {
      some = some;
      within = omega (arith, ap length e, length-append a r);
      read = read ∙ ap₂ (λ (z y : List ℕ). Some (lexeme_by kind z, y)) (sym p) (sym q);
    }

-- ---- words

pub word_begins : (x : ℕ) (c : List ℕ) (n : ℕ) → is_name_start x ≡ true → length (word_of (x ∷ c)).0 ≡ n → Stands (x ∷ c) (next (x ∷ c)) tok.Word n
word_begins x c n h l =
    let v = word_of (x ∷ c) in
    let read : next (x ∷ c) ≡ Some (word v.0, v.1) = rw h refl in
    let some : 0 < length v.0 = named v.0 v.1 (token_read (x ∷ c) v.1 (word v.0) read) in
    by_characters (x ∷ c) v.0 v.1 (next (x ∷ c)) tok.Word n (word_read (x ∷ c)).text l (omega (arith, some, l)) read
  where
    named : (name r : List ℕ) → NameAt (x ∷ c) r name → 0 < length name
    named name r (t, (y, ys, e, h, run), w) = omega (arith, ap length e)

pub word_first : (t : List ℕ) (x n : ℕ) → 1 ≤ length t → x ≡ get_or t 0 x → is_name_start x ≡ true → length (word_of t).0 ≡ n → Stands t (next t) tok.Word n
word_first t x n some e h l =
    let k : t ≡ x ∷ drop 1 t = drop_more t 0 x some ∙ ap (λ (y : ℕ). y ∷ drop 1 t) (sym e) in
    subst (λ (z : List ℕ). length (word_of z).0 ≡ n → Stands z (next z) tok.Word n) (sym k) (word_begins x (drop 1 t) n h) l

-- ---- strings

pub quote_unbroken : (q : ℕ) → char_set_contains (codes "\"'") q ≡ true → char_set_contains (10 ∷ 13 ∷ []) q ≡ false
quote_unbroken q h = not_false _ (in_all (λ x. not (char_set_contains (10 ∷ 13 ∷ []) x)) (codes "\"'") q refl h)

-- a string by its own characters
abbrev pub written : ℕ → List ℕ → List ℕ
written q xs = escaped q xs ++ q ∷ []

pub written_rest : (q : ℕ) (xs r : List ℕ) → escaped q xs ++ (q ∷ r) ≡ written q xs ++ r
written_rest q xs r = sym (append_assoc (escaped q xs) (q ∷ []) r)

some_rest : (a b : List ℕ) → Some a ≡ Some b → a ≡ b
some_rest a b e = cc e

string_stands : (q : ℕ) (c : List ℕ) (v : Option Read) (n : ℕ) → IsStringRest q c v → option_map (λ w. w.1) v ≡ Some (drop n c) → n ≤ length c
    → Stands (q ∷ c) (option_map {U = Lexeme × List ℕ} (λ w. (quote w.0, w.1)) v) tok.Quote (n + 1)
string_stands q c None n h e l = absurd (cc e)
string_stands q c (Some v) n h e l =
    let p : v.1 ≡ drop n c = some_rest _ _ e in
    let t : c ≡ written q v.0 ++ v.1 = h.1 ∙ written_rest q v.0 v.1 in
    let k : length (written q v.0) ≡ n = omega (arith, ap length t, length-append (written q v.0) v.1, ap length p, length-drop n c) in
    let s : content (q ∷ written q v.0) ≡ v.0 = rw (string_reads q v.0 [] h.0 refl) refl in
    by_characters (q ∷ c) (q ∷ written q v.0) v.1 _ tok.Quote (n + 1) (ap (λ (z : List ℕ). q ∷ z) t) (omega (arith, k)) (omega arith)
    (ap (λ (z : List ℕ). Some (quote z, v.1)) (sym s))

pub no_string : (v : Option Read) → option_map (λ w. w.1) v ≡ None → option_map {U = Lexeme × List ℕ} (λ w. (quote w.0, w.1)) v ≡ None
no_string None e = refl
no_string (Some v) e = absurd (cc e)

pub string_first : (q : ℕ) (c : List ℕ) (n : ℕ) → IsTrue (char_set_contains (codes "\"'") q) → option_map (λ w. w.1) (quoted q c) ≡ Some (drop n c) → n ≤ length c
    → Stands (q ∷ c) (option_map {U = Lexeme × List ℕ} (λ w. (quote w.0, w.1)) (quoted q c)) tok.Quote (n + 1)
string_first q c n h e l = string_stands q c (quoted q c) n (string_read q (quote_unbroken q h) c) e l

-- ---- numbers

pub number_first : (c : List ℕ) (n : ℕ) → length (digits_of c).0 ≡ n → 0 < n → Stands (35 ∷ c) (hex_of (digits_of c)) tok.Hex (n + 1)
number_first c n l some = go (digits_of c).0 (digits_of c).1 (digits_are c).0 l
  where
    go : (ds r : List ℕ) → c ≡ ds ++ r → length ds ≡ n → Stands (35 ∷ c) (hex_of (ds, r)) tok.Hex (n + 1)
    go [] r t k = absurd (omega (arith, k, some))
    go (d ∷ ds) r t k = by_characters (35 ∷ c) (35 ∷ d ∷ ds) r _ tok.Hex (n + 1) (ap (λ (z : List ℕ). 35 ∷ z) t) (omega (arith, k)) (omega arith) refl

-- ---- marks

twice_first : (x : ℕ) (c : List ℕ) (one two : Lexeme) (twice : Tok) → lexeme_by tok.Punct (x ∷ []) ≡ one → lexeme_by twice (x ∷ x ∷ []) ≡ two
    → IsFirstToken (x ∷ c) (if begins x c then Some (two, rest_of c) else Some (one, c)) (Some (if begins x c then (twice, 2) else (tok.Punct, 1)))
twice_first x [] one two twice e f = by_characters (x ∷ []) (x ∷ []) [] _ tok.Punct 1 refl refl (omega arith) (ap (λ (k : Lexeme). Some (k, [])) (sym e))
twice_first x (y ∷ c) one two twice e f =
    elim (y == x) as (λ b. (y == x) ≡ b → IsFirstToken (x ∷ y ∷ c) (if b then Some (two, c) else Some (one, y ∷ c)) (Some (if b then (twice, 2) else (tok.Punct, 1)))) [
      | true ↦ λ h. by_characters (x ∷ y ∷ c) (x ∷ x ∷ []) c _ twice 2 (ap (λ (z : ℕ). x ∷ z ∷ c) (eqb-true y x h)) refl (omega arith) (ap (λ (k : Lexeme). Some (k, c)) (sym f))
      | false ↦ λ _. by_characters (x ∷ y ∷ c) (x ∷ []) (y ∷ c) _ tok.Punct 1 refl refl (omega arith) (ap (λ (k : Lexeme). Some (k, y ∷ c)) (sym e))
    ] refl

pub star_first : (c : List ℕ) → IsFirstToken (42 ∷ c) (if begins 42 c then Some (stars, rest_of c) else Some (star, c)) (Some (if begins 42 c then (tok.Stars, 2) else (tok.Punct, 1)))
star_first c = twice_first 42 c star stars tok.Stars refl refl

pub plus_first : (c : List ℕ) → IsFirstToken (43 ∷ c) (if begins 43 c then Some (pluses, rest_of c) else Some (plus, c)) (Some (if begins 43 c then (tok.Pluses, 2) else (tok.Punct, 1)))
plus_first c = twice_first 43 c plus pluses tok.Pluses refl refl
