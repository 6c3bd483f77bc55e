-- Tokens as what is spelled, and as what is read.
use Rattle.std.proofs.Common.{◌≡◌, refl, sym, ap, ◌∙◌, subst, ℕ, List, [], ◌∷◌, ◌++◌, Option, Some, None, length, drop}
use Rattle.std.proofs.lemmas.Bool.{eqb-true, eq-eqb}
use Rattle.std.specs.Prelude.{Bool, true, false, ◌==◌, if◌then◌else◌, nat_lt, option_map, codes, unwrap_or}
use Rattle.std.specs.Char.{char_set_contains}
use Rattle.ix_model.specs.Spelling.Characters.{is_name_start}
use Rattle.ix_model.specs.Spelling.Spacing.{Spacing}
use Rattle.ix_model.specs.Spelling.Spells.{StringAt, escaped, is_hex_digit}
use Rattle.ix_spelling_laws.specs.Reading.Lexing as lexing
use Rattle.ix_spelling_laws.specs.Reading.Lexing.{Lexeme, quote, hex, star, stars, plus, pluses, Lexes, Read, after, has_gap, next, quoted, closed, push, digits_of, hex_of, begins, rest_of, mark_of, word, word_of}
use Rattle.ix_model.proofs.Booleans.{in_all}
use Rattle.ix_spelling_laws.proofs.CharacterFacts.{visible, see}
use Rattle.ix_spelling_laws.proofs.LexemeFacts.{string_reads, IsStringRest, string_read}
use Rattle.ix_spelling_laws.proofs.SpacingFacts.{spacing_runs, spacing_to_after}
use Rattle.ix_spelling_laws.proofs.TokenFacts.{token_read, token_reads, token_solid}
use Rattle.ix_lex.specs.declared.token.Token.{Token}
use Rattle.ix_lex.specs.Spans.{AreTokens, content, lexeme_of}
use Rattle.ix_lex.specs.Spelled.{EndsBefore, WholeTokenAt, AreSpelled, StandIn}
use Rattle.ix_lex.specs.Strings.{IsString}
use Rattle.ix_lex.proofs.Lexemes.{quote_unbroken}

-- ---- what is read does not go on

abbrev NextEnds : List ℕ → Option (Lexeme × List ℕ) → Type 0
NextEnds b None = Unit {0}
NextEnds b (Some v) = EndsBefore b v.1 v.0

choose : (b : Bool) (c : List ℕ) (m n : Option (Lexeme × List ℕ)) → (b ≡ true → NextEnds c m) → (b ≡ false → NextEnds c n) → NextEnds c (if b then m else n)
choose true c m n h k = h refl
choose false c m n h k = k refl

-- what is behind a string does not begin with its quote
abbrev QuoteEnds : ℕ → Option Read → Type 0
QuoteEnds q None = Unit {0}
QuoteEnds q (Some v) = (d : List ℕ) → v.1 ≡ q ∷ d → ⊥

pushed : (q x : ℕ) (v : Option Read) → QuoteEnds q v → QuoteEnds q (option_map (push x) v)
pushed q x None h = tt
pushed q x (Some v) h = h

mutual
  quoted_ends : (q : ℕ) (c : List ℕ) → QuoteEnds q (quoted q c)
  quoted_ends q [] = tt
  quoted_ends q (x ∷ c) =
      elim (x == q) as (λ b. QuoteEnds q (if b then closed q c else (if char_set_contains (10 ∷ 13 ∷ []) x then None else option_map (push x) (quoted q c)))) [
        | true ↦ closed_ends q c
        | false ↦ elim (char_set_contains (10 ∷ 13 ∷ []) x) as (λ b. QuoteEnds q (if b then None else option_map (push x) (quoted q c))) [
          | true ↦ tt
          | false ↦ pushed q x (quoted q c) (quoted_ends q c)
        ]
      ]

  closed_ends : (q : ℕ) (c : List ℕ) → QuoteEnds q (closed q c)
  closed_ends q [] = λ d e. cc e
  closed_ends q (y ∷ c) =
      elim (y == q) as (λ b. (y == q) ≡ b → QuoteEnds q (if b then option_map (push q) (quoted q c) else Some ([], y ∷ c))) [
        | true ↦ λ _. pushed q q (quoted q c) (quoted_ends q c)
        | false ↦ λ h d e. let same : y ≡ q = cc e in let k : (y == q) ≡ true = eq-eqb y q same in absurd (cc (h, k))
      ] refl

quote_ends : (x : ℕ) (c : List ℕ) (v : Option Read) → QuoteEnds x v → NextEnds (x ∷ c) (option_map (λ (v : Read). (quote v.0, v.1)) v)
quote_ends x c None h = tt
quote_ends x c (Some v) h = λ q d e f g. let k : q ≡ x = cc f in h e (g ∙ ap (λ (y : ℕ). y ∷ e) k)

digits_end : (c : List ℕ) (x : ℕ) (d : List ℕ) → (digits_of c).1 ≡ x ∷ d → is_hex_digit x ≡ false
digits_end [] x d = λ e. absurd (cc e)
digits_end (y ∷ c) x d =
    elim (is_hex_digit y) as (λ b. is_hex_digit y ≡ b → (λ (v : Read). v.1 ≡ x ∷ d → is_hex_digit x ≡ false) (if b then push y (digits_of c) else ([], y ∷ c))) [
      | true ↦ λ _. digits_end c x d
      | false ↦ λ h e. let k : y ≡ x = cc e in ap is_hex_digit (sym k) ∙ h
    ] refl

hex_ends : (x : ℕ) (c : List ℕ) (v : Read) → ((y : ℕ) (d : List ℕ) → v.1 ≡ y ∷ d → is_hex_digit y ≡ false) → NextEnds (x ∷ c) (hex_of v)
hex_ends x c v h = go v.0 v.1 h
  where
    go : (ds r : List ℕ) → ((y : ℕ) (d : List ℕ) → r ≡ y ∷ d → is_hex_digit y ≡ false) → NextEnds (x ∷ c) (hex_of (ds, r))
    go [] r h = tt
    go (d ∷ ds) r h = h

pair_ends : (x n : ℕ) (c : List ℕ) (one two : Lexeme) → ((r : List ℕ) → EndsBefore (x ∷ c) r two) → ((r : List ℕ) → ((d : List ℕ) → r ≡ n ∷ d → ⊥) → EndsBefore (x ∷ c) r one) →
    NextEnds (x ∷ c) (if begins n c then Some (two, rest_of c) else Some (one, c))
pair_ends x n [] one two h k = k [] (λ d e. cc e)
pair_ends x n (y ∷ c) one two h k =
    elim (y == n) as (λ b. (y == n) ≡ b → NextEnds (x ∷ y ∷ c) (if b then Some (two, c) else Some (one, y ∷ c))) [
      | true ↦ λ _. h c
      | false ↦ λ f. k (y ∷ c) (λ d e. let same : y ≡ n = cc e in let g : (y == n) ≡ true = eq-eqb y n same in absurd (cc (f, g)))
    ] refl

abbrev MarkEnds : ℕ → List ℕ → Option Lexeme → Type 0
MarkEnds x c None = Unit {0}
MarkEnds x c (Some k) = EndsBefore (x ∷ c) c k

mark_step : (b : Bool) (k : Lexeme) (m : Option Lexeme) (x : ℕ) (c : List ℕ) → EndsBefore (x ∷ c) c k → MarkEnds x c m → MarkEnds x c (if b then Some k else m)
mark_step true k m x c h rest = h
mark_step false k m x c h rest = rest

mark_ends : (x : ℕ) (c : List ℕ) → MarkEnds x c (mark_of x)
mark_ends x c =
    mark_step (x == 64) lexing.at _ x c tt (mark_step (x == 94) lexing.caret _ x c tt (mark_step (x == 45) lexing.dash _ x c tt (mark_step (x == 58) lexing.colon _ x c tt (mark_step (x == 61) lexing.equals _ x c tt (mark_step (x == 59) lexing.semi _ x c tt (mark_step (x == 124) lexing.bar _ x c tt (mark_step (x == 44) lexing.comma _ x c tt (mark_step (x == 46) lexing.stop _ x c tt (mark_step (x == 63) lexing.question _ x c tt (mark_step (x == 40) lexing.open_group _ x c tt (mark_step (x == 41) lexing.close_group _ x c tt (mark_step (x == 91) lexing.open_set _ x c tt (mark_step (x == 93) lexing.close_set _ x c tt (mark_step (x == 126) lexing.tilde _ x c tt tt))))))))))))))

mark_next : (x : ℕ) (c : List ℕ) (m : Option Lexeme) → MarkEnds x c m → NextEnds (x ∷ c) (option_map (λ (k : Lexeme). (k, c)) m)
mark_next x c None h = tt
mark_next x c (Some k) h = h

next_ends : (b : List ℕ) → NextEnds b (next b)
next_ends [] = tt
next_ends (x ∷ c) =
    choose (is_name_start x) (x ∷ c) _ _ (λ _. tt)
    (λ _. choose (char_set_contains (codes "\"'") x) (x ∷ c) _ _ (λ _. quote_ends x c (quoted x c) (quoted_ends x c))
    (λ _. choose (x == 35) (x ∷ c) _ _ (λ _. hex_ends x c (digits_of c) (digits_end c))
    (λ _. choose (x == 42) (x ∷ c) _ _ (λ _. pair_ends x 42 c star stars (λ _. tt) (λ _ h. h))
    (λ _. choose (x == 43) (x ∷ c) _ _ (λ _. pair_ends x 43 c plus pluses (λ _. tt) (λ _ h. h))
    (λ _. mark_next x c (mark_of x) (mark_ends x c))))))

-- a token that is read is a whole one
pub whole_read : (b r : List ℕ) (k : Lexeme) → next b ≡ Some (k, r) → WholeTokenAt b r k
whole_read b r k e = (token_read b r k e, subst (NextEnds b) e (next_ends b))

-- ---- a whole token is read

not_begun : (x : ℕ) (r : List ℕ) → ((d : List ℕ) → r ≡ x ∷ d → ⊥) → begins x r ≡ false
not_begun x [] h = refl
not_begun x (y ∷ r) h =
    elim (y == x) as (λ b. (y == x) ≡ b → b ≡ false) [
      | true ↦ λ e. absurd (h r (ap (λ (z : ℕ). z ∷ r) (eqb-true y x e)))
      | false ↦ λ _. refl
    ] refl

quote_whole : (b r xs : List ℕ) → StringAt b r xs → ((q : ℕ) (c d : List ℕ) → b ≡ q ∷ c → r ≡ q ∷ d → ⊥) → next b ≡ Some (quote xs, r)
quote_whole b r xs (q, h, line, e) ends =
    let fits : begins q r ≡ false = not_begun q r (λ d. ends q (escaped q xs ++ (q ∷ r)) d e) in
    let k : quoted q (escaped q xs ++ (q ∷ r)) ≡ Some (xs, r) = string_reads q xs r line fits in
    let apart : is_name_start q ≡ false = (see q (in_all (char_set_contains visible) (codes "\"'") q refl h)).no_start in
    let t : next (q ∷ (escaped q xs ++ (q ∷ r))) ≡ Some (quote xs, r) = rw (apart, h, k) refl in
    ap next e ∙ t

pub whole_reads : (b r : List ℕ) (k : Lexeme) → WholeTokenAt b r k → next b ≡ Some (k, r)
whole_reads b r (quote xs) h = quote_whole b r xs h.0 h.1
whole_reads b r (hex ds) h = token_reads b r (hex ds) h.0 h.1
whole_reads b r star h = token_reads b r star h.0 (not_begun 42 r h.1)
whole_reads b r plus h = token_reads b r plus h.0 (not_begun 43 r h.1)
whole_reads b r (word n) h = token_reads b r (word n) h.0 tt
whole_reads b r lexing.at h = token_reads b r lexing.at h.0 tt
whole_reads b r lexing.caret h = token_reads b r lexing.caret h.0 tt
whole_reads b r lexing.dash h = token_reads b r lexing.dash h.0 tt
whole_reads b r lexing.colon h = token_reads b r lexing.colon h.0 tt
whole_reads b r lexing.equals h = token_reads b r lexing.equals h.0 tt
whole_reads b r lexing.semi h = token_reads b r lexing.semi h.0 tt
whole_reads b r lexing.bar h = token_reads b r lexing.bar h.0 tt
whole_reads b r lexing.comma h = token_reads b r lexing.comma h.0 tt
whole_reads b r lexing.stop h = token_reads b r lexing.stop h.0 tt
whole_reads b r lexing.question h = token_reads b r lexing.question h.0 tt
whole_reads b r stars h = token_reads b r stars h.0 tt
whole_reads b r pluses h = token_reads b r pluses h.0 tt
whole_reads b r lexing.open_group h = token_reads b r lexing.open_group h.0 tt
whole_reads b r lexing.close_group h = token_reads b r lexing.close_group h.0 tt
whole_reads b r lexing.open_set h = token_reads b r lexing.open_set h.0 tt
whole_reads b r lexing.close_set h = token_reads b r lexing.close_set h.0 tt
whole_reads b r lexing.tilde h = token_reads b r lexing.tilde h.0 tt

-- ---- lists of tokens

all_spaced : (c : List ℕ) → after c ≡ [] → Spacing c []
all_spaced c e = subst (Spacing c) e (spacing_to_after c)

pub spelled : (ts : List lexing.Token) (c : List ℕ) → Lexes ts c → AreSpelled ts c
spelled [] c h = all_spaced c h
spelled (t ∷ ts) c (r, g, n, h) = (after c, r, spacing_to_after c, g, whole_read (after c) r t.lexeme n, spelled ts r h)

pub spelled_lexes : (ts : List lexing.Token) (c : List ℕ) → AreSpelled ts c → Lexes ts c
spelled_lexes [] c h = spacing_runs c [] h
spelled_lexes (t ∷ ts) c (b, r, s, g, w, h) =
    let e : after c ≡ b = spacing_runs c b s ∙ token_solid b r t.lexeme w.0 in
    (r, g ∙ ap (λ (z : List ℕ). nat_lt (length z) (length c)) (sym e), ap next e ∙ whole_reads b r t.lexeme w, spelled_lexes ts r h)

pub stand_in : (c : List ℕ) (from : ℕ) (ts : List Token) → AreTokens c from ts → StandIn c from ts
stand_in c from [] h = all_spaced (drop from c) h
stand_in c from (t ∷ ts) (o, l, w, e, n, h) =
    (subst (Spacing (drop from c)) (sym e) (spacing_to_after (drop from c)), whole_read (drop t.low c) (drop t.high c) (lexeme_of c t) n, stand_in c t.high ts h)

-- ---- strings

-- the characters of a string are a string with its content
pub string_there : (cs : List ℕ) → IsString cs → StringAt cs [] (content cs)
string_there [] h = absurd h
string_there (q ∷ cs) (h, (xs, e)) =
    let rest : IsStringRest q cs (Some (xs, [])) = subst (IsStringRest q cs) e (string_read q (quote_unbroken q h) cs) in
    let same : xs ≡ content (q ∷ cs) = sym (ap (λ (v : Option Read). unwrap_or (option_map (λ (w : Read). w.0) v) []) e) in
    subst (StringAt (q ∷ cs) []) same (q, h, rest.0, ap (λ (z : List ℕ). q ∷ z) rest.1)

-- and what is a string may be unquoted
pub string_taken : (cs xs : List ℕ) → StringAt cs [] xs → IsString cs
string_taken cs xs (q, h, line, e) = subst IsString (sym e) (h, (xs, string_reads q xs [] line refl))
