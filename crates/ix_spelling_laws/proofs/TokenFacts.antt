-- Tokens as a relation and as a function.
use Rattle.std.proofs.Common.{◌≡◌, refl, sym, ap, ap₂, ◌∙◌, subst, ℕ, zero, suc, List, [], ◌∷◌, ◌++◌, ◌⊎◌, inl, inr, arith, Option, Some, None}
use Rattle.std.proofs.lemmas.Bool.{eqb-true}
use Rattle.std.specs.Prelude.{Bool, true, false, not, ◌||◌, ◌==◌, if◌then◌else◌, IsTrue, codes, option_map}
use Rattle.std.specs.List.{AllByRecursion, Contains}
use Rattle.std.specs.Char.{char_set_contains}
use Rattle.ix_model.specs.Spelling.Characters.{is_blank, is_name_start, is_name_part}
use Rattle.ix_model.specs.Spelling.Words.{IsWord, NameAt, ends_run}
use Rattle.ix_model.specs.Spelling.Spells.{escaped, IsOneLine, is_hex_digit}
use Rattle.ix_model.proofs.Booleans.{not_false, char_set_contains-Decides}
use Rattle.ix_spelling_laws.specs.Reading.Lexing.{Lexeme, word, quote, hex, at, caret, dash, colon, equals, semi, bar, comma, stop, question, star, stars, plus, pluses, open_group, close_group, open_set, close_set, tilde, after, Read, word_of, digits_of, hex_of, quoted, begins, rest_of, mark_of, next}
use Rattle.ix_spelling_laws.specs.Reading.Tokens.{TokenAt}
use Rattle.ix_spelling_laws.proofs.CharacterFacts.{visible, see, start_is_part, start_no_brace, start_no_blank}
use Rattle.ix_spelling_laws.proofs.LexemeFacts.{word_reads, WordRead, word_read, digits_read, digits_are, string_reads, IsStringRest, string_read}

-- ---- what is read is a token

abbrev OnMark : ℕ → List ℕ → Option Lexeme → Type 0
OnMark x c None = Unit {0}
OnMark x c (Some k) = TokenAt (x ∷ c) c k

mark_step : (n : ℕ) (k : Lexeme) (m : Option Lexeme) (x : ℕ) (c : List ℕ) → TokenAt (n ∷ c) c k → OnMark x c m → OnMark x c (if x == n then Some k else m)
mark_step n k m x c h rest =
    elim (x == n) as (λ b. (x == n) ≡ b → OnMark x c (if b then Some k else m)) [
      | true ↦ λ e. subst (λ (y : ℕ). TokenAt (y ∷ c) c k) (sym (eqb-true x n e)) h
      | false ↦ λ _. rest
    ] refl

mark_read : (x : ℕ) (c : List ℕ) → OnMark x c (mark_of x)
mark_read x c =
    mark_step 64 at _ x c refl (mark_step 94 caret _ x c refl (mark_step 45 dash _ x c refl (mark_step 58 colon _ x c refl (mark_step 61 equals _ x c refl (mark_step 59 semi _ x c refl (mark_step 124 bar _ x c refl (mark_step 44 comma _ x c refl (mark_step 46 stop _ x c refl (mark_step 63 question _ x c refl (mark_step 40 open_group _ x c refl (mark_step 41 close_group _ x c refl (mark_step 91 open_set _ x c refl (mark_step 93 close_set _ x c refl (mark_step 126 tilde _ x c refl tt))))))))))))))

abbrev pub OnNext : List ℕ → Option (Lexeme × List ℕ) → Type 0
OnNext b None = Unit {0}
OnNext b (Some v) = TokenAt b v.1 v.0

choose : (b : Bool) (c : List ℕ) (m n : Option (Lexeme × List ℕ)) → (b ≡ true → OnNext c m) → (b ≡ false → OnNext c n) → OnNext c (if b then m else n)
choose true c m n h k = h refl
choose false c m n h k = k refl

word_next : (x : ℕ) (c : List ℕ) → is_name_start x ≡ true → (v : Read) → WordRead (x ∷ c) v.0 v.1 → OnNext (x ∷ c) (Some (word v.0, v.1))
word_next x c h v w = go v.0 w
  where
    go : (n : List ℕ) → WordRead (x ∷ c) n v.1 → NameAt (x ∷ c) v.1 n
    go [] w = absurd (no_word (v.1) w.text w.word)
      where
        no_word : (r : List ℕ) → x ∷ c ≡ r → IsWord [] r → ⊥
        no_word r t (inl (r2, e, a, k)) =
            let p : IsTrue (not (is_name_part x)) = subst (λ (z : List ℕ). IsTrue (ends_run z)) (sym t) e in
            cc (not_false _ p, start_is_part x h)
        no_word r t (inr (r2, more, e, k, a, s)) =
            let p : x ≡ 46 = cc (t, e) in
            cc (h, (see 46 refl).no_start, ap is_name_start p)
    go (y ∷ ys) w = (w.text, (y, ys, refl, ap is_name_start (sym (head w.text)) ∙ h, w.run.1), w.word)
      where
        head : x ∷ c ≡ y ∷ (ys ++ v.1) → x ≡ y
        head e = cc e

quote_next : (x : ℕ) (c : List ℕ) → char_set_contains (codes "\"'") x ≡ true → (v : Option Read) → IsStringRest x c v → OnNext (x ∷ c) (option_map (λ (v : Read). (quote v.0, v.1)) v)
quote_next x c h None k = tt
quote_next x c h (Some v) k = (x, h, k.0, ap (λ z. x ∷ z) k.1)

hex_next : (x : ℕ) (c : List ℕ) → x ≡ 35 → (v : Read) → (c ≡ v.0 ++ v.1) × AllByRecursion (λ d. IsTrue (is_hex_digit d)) v.0 → OnNext (x ∷ c) (hex_of v)
hex_next x c e v k = go v.0 v.1 k
  where
    go : (ds r : List ℕ) → (c ≡ ds ++ r) × AllByRecursion (λ d. IsTrue (is_hex_digit d)) ds → OnNext (x ∷ c) (hex_of (ds, r))
    go [] r k = tt
    go (d ∷ ds) r k = (ap₂ (λ (y : ℕ) (z : List ℕ). y ∷ z) e k.0, (λ h. cc h, k.1))

pair_next : (x n : ℕ) (c : List ℕ) (one two : Lexeme) → x ≡ n → ((c : List ℕ) → TokenAt (n ∷ c) c one) → ((c : List ℕ) → TokenAt (n ∷ n ∷ c) c two) → OnNext (x ∷ c) (if begins n c then Some (two, rest_of c) else Some (one, c))
pair_next x n [] one two e h k = subst (λ (y : ℕ). TokenAt (y ∷ []) [] one) (sym e) (h [])
pair_next x n (y ∷ c) one two e h k =
    elim (y == n) as (λ b. (y == n) ≡ b → OnNext (x ∷ y ∷ c) (if b then Some (two, c) else Some (one, y ∷ c))) [
      | true ↦ λ f. subst (λ (z : ℕ). TokenAt (z ∷ y ∷ c) c two) (sym e) (subst (λ (z : ℕ). TokenAt (n ∷ z ∷ c) c two) (sym (eqb-true y n f)) (k c))
      | false ↦ λ _. subst (λ (z : ℕ). TokenAt (z ∷ y ∷ c) (y ∷ c) one) (sym e) (h (y ∷ c))
    ] refl

mark_next : (x : ℕ) (c : List ℕ) (m : Option Lexeme) → OnMark x c m → OnNext (x ∷ c) (option_map (λ (k : Lexeme). (k, c)) m)
mark_next x c None h = tt
mark_next x c (Some k) h = h

two : (x a b : ℕ) → char_set_contains (a ∷ b ∷ []) x ≡ true → (x ≡ a) ⊎ (x ≡ b)
two x a b h = by_place ((char_set_contains-Decides (a ∷ b ∷ []) x).0 h)
  where
    by_place : Contains (a ∷ b ∷ []) x → (x ≡ a) ⊎ (x ≡ b)
    by_place (zero, _, e) = inl (sym e)
    by_place (suc zero, _, e) = inr (sym e)
    by_place (suc (suc k), l, e) = absurd (omega (arith, l))

quote_no_break : (x : ℕ) → (x ≡ 34) ⊎ (x ≡ 39) → char_set_contains (10 ∷ 13 ∷ []) x ≡ false
quote_no_break x (inl e) = ap (char_set_contains (10 ∷ 13 ∷ [])) e
quote_no_break x (inr e) = ap (char_set_contains (10 ∷ 13 ∷ [])) e

pub next_read : (b : List ℕ) → OnNext b (next b)
next_read [] = tt
next_read (x ∷ c) =
    choose (is_name_start x) (x ∷ c) _ _ (λ h. word_next x c h (word_of (x ∷ c)) (word_read (x ∷ c)))
    (λ _. choose (char_set_contains (codes "\"'") x) (x ∷ c) _ _ (λ h. quote_next x c h (quoted x c) (string_read x (quote_no_break x (two x 34 39 h)) c))
    (λ _. choose (x == 35) (x ∷ c) _ _ (λ h. hex_next x c (eqb-true x 35 h) (digits_of c) (digits_are c))
    (λ _. choose (x == 42) (x ∷ c) _ _ (λ h. pair_next x 42 c star stars (eqb-true x 42 h) (λ _. refl) (λ _. refl))
    (λ _. choose (x == 43) (x ∷ c) _ _ (λ h. pair_next x 43 c plus pluses (eqb-true x 43 h) (λ _. refl) (λ _. refl))
    (λ _. mark_next x c (mark_of x) (mark_read x c))))))

pub token_read : (b r : List ℕ) (k : Lexeme) → next b ≡ Some (k, r) → TokenAt b r k
token_read b r k e = subst (OnNext b) e (next_read b)

-- ---- a token that the rest does not prolong is read

abbrev pub Fits : Lexeme → List ℕ → Type 0
Fits (quote xs) r = (begins 34 r ≡ false) × (begins 39 r ≡ false)
Fits (hex ds) r = (x : ℕ) (c : List ℕ) → r ≡ x ∷ c → is_hex_digit x ≡ false
Fits star r = begins 42 r ≡ false
Fits plus r = begins 43 r ≡ false
Fits _ r = Unit {0}

solid : (x : ℕ) (b c : List ℕ) → b ≡ x ∷ c → is_blank x ≡ false → (x == 123) ≡ false → after b ≡ b
solid x b c e p q =
    let h : after (x ∷ c) ≡ x ∷ c = rw (p, q) refl in
    subst (λ (z : List ℕ). after z ≡ z) (sym e) h

marked : (x : ℕ) (b c : List ℕ) → b ≡ x ∷ c → char_set_contains visible x ≡ true → after b ≡ b
marked x b c e h = solid x b c e (see x h).no_blank (see x h).no_brace

quote_seen : (x : ℕ) → (x ≡ 34) ⊎ (x ≡ 39) → char_set_contains visible x ≡ true
quote_seen x (inl e) = ap (char_set_contains visible) e
quote_seen x (inr e) = ap (char_set_contains visible) e

-- no spacing stands before a token
pub token_solid : (b r : List ℕ) (k : Lexeme) → TokenAt b r k → after b ≡ b
token_solid b r (word n) (e, (x, xs, f, h, run), w) = solid x b (xs ++ r) (e ∙ ap (λ (z : List ℕ). z ++ r) f) (start_no_blank x h) (start_no_brace x h)
token_solid b r (quote xs) (q, h, line, e) = marked q b _ e (quote_seen q (two q 34 39 h))
token_solid b r (hex ds) h = marked 35 b _ h.0 refl
token_solid b r at h = marked 64 b r h refl
token_solid b r caret h = marked 94 b r h refl
token_solid b r dash h = marked 45 b r h refl
token_solid b r colon h = marked 58 b r h refl
token_solid b r equals h = marked 61 b r h refl
token_solid b r semi h = marked 59 b r h refl
token_solid b r bar h = marked 124 b r h refl
token_solid b r comma h = marked 44 b r h refl
token_solid b r stop h = marked 46 b r h refl
token_solid b r question h = marked 63 b r h refl
token_solid b r star h = marked 42 b r h refl
token_solid b r stars h = marked 42 b _ h refl
token_solid b r plus h = marked 43 b r h refl
token_solid b r pluses h = marked 43 b _ h refl
token_solid b r open_group h = marked 40 b r h refl
token_solid b r close_group h = marked 41 b r h refl
token_solid b r open_set h = marked 91 b r h refl
token_solid b r close_set h = marked 93 b r h refl
token_solid b r tilde h = marked 126 b r h refl

mark_reads : (x : ℕ) (b r : List ℕ) (k : Lexeme) → b ≡ x ∷ r → is_name_start x ≡ false → (char_set_contains (codes "\"'") x || ((x == 35) || ((x == 42) || (x == 43)))) ≡ false → mark_of x ≡ Some k → next b ≡ Some (k, r)
mark_reads x b r k e p q m = ap next e ∙ go (four _ _ _ _ q)
  where
    four : (t u v w : Bool) → (t || (u || (v || w))) ≡ false → (t ≡ false) × (u ≡ false) × (v ≡ false) × (w ≡ false)
    four false false false false h = (refl, refl, refl, refl)
    four true _ _ _ h = absurd (cc h)
    four false true _ _ h = absurd (cc h)
    four false false true _ h = absurd (cc h)
    four false false false true h = absurd (cc h)

    go : (char_set_contains (codes "\"'") x ≡ false) × ((x == 35) ≡ false) × ((x == 42) ≡ false) × ((x == 43) ≡ false) → next (x ∷ r) ≡ Some (k, r)
    go (t, u, v, w) = rw (p, t, u, v, w, m) refl

quote_reads : (q : ℕ) (xs r : List ℕ) → (q ≡ 34) ⊎ (q ≡ 39) → IsOneLine xs → (begins 34 r ≡ false) × (begins 39 r ≡ false) → next (q ∷ (escaped q xs ++ (q ∷ r))) ≡ Some (quote xs, r)
quote_reads q xs r s line f =
    let k : quoted q (escaped q xs ++ (q ∷ r)) ≡ Some (xs, r) = string_reads q xs r line (fits s) in
    let p : is_name_start q ≡ false = (see q (quote_seen q s)).no_start in
    let t : char_set_contains (codes "\"'") q ≡ true = is_quote s in
    rw (p, t, k) refl
  where
    fits : (q ≡ 34) ⊎ (q ≡ 39) → begins q r ≡ false
    fits (inl e) = ap (λ (y : ℕ). begins y r) e ∙ f.0
    fits (inr e) = ap (λ (y : ℕ). begins y r) e ∙ f.1

    is_quote : (q ≡ 34) ⊎ (q ≡ 39) → char_set_contains (codes "\"'") q ≡ true
    is_quote (inl e) = ap (char_set_contains (codes "\"'")) e
    is_quote (inr e) = ap (char_set_contains (codes "\"'")) e

pub token_reads : (b r : List ℕ) (k : Lexeme) → TokenAt b r k → Fits k r → next b ≡ Some (k, r)
token_reads b r (word n) (e, (x, xs, f, h, run), w) fits =
    let w2 : IsWord (x ∷ xs) r = subst (λ (z : List ℕ). IsWord z r) f w in
    let k : word_of (x ∷ (xs ++ r)) ≡ (x ∷ xs, r) = word_reads (x ∷ xs) r (start_is_part x h, run) w2 in
    let t : next (x ∷ (xs ++ r)) ≡ Some (word (x ∷ xs), r) = rw (h) (ap (λ (v : Read). Some (word v.0, v.1)) k) in
    ap next (e ∙ ap (λ (z : List ℕ). z ++ r) f) ∙ t ∙ ap (λ (z : List ℕ). Some (word z, r)) (sym f)
token_reads b r (quote xs) (q, h, line, e) fits = ap next e ∙ quote_reads q xs r (two q 34 39 h) line fits
token_reads b r (hex []) h fits = absurd (h.1.0 refl)
token_reads b r (hex (d ∷ ds)) h fits =
    let k : digits_of (d ∷ (ds ++ r)) ≡ (d ∷ ds, r) = digits_read (d ∷ ds) r h.1.1 fits in
    let t : next (35 ∷ d ∷ (ds ++ r)) ≡ Some (hex (d ∷ ds), r) = rw ((see 35 refl).no_start) (ap hex_of k) in
    ap next h.0 ∙ t
token_reads b r at h fits = mark_reads 64 b r _ h (see 64 refl).no_start refl refl
token_reads b r caret h fits = mark_reads 94 b r _ h (see 94 refl).no_start refl refl
token_reads b r dash h fits = mark_reads 45 b r _ h (see 45 refl).no_start refl refl
token_reads b r colon h fits = mark_reads 58 b r _ h (see 58 refl).no_start refl refl
token_reads b r equals h fits = mark_reads 61 b r _ h (see 61 refl).no_start refl refl
token_reads b r semi h fits = mark_reads 59 b r _ h (see 59 refl).no_start refl refl
token_reads b r bar h fits = mark_reads 124 b r _ h (see 124 refl).no_start refl refl
token_reads b r comma h fits = mark_reads 44 b r _ h (see 44 refl).no_start refl refl
token_reads b r stop h fits = mark_reads 46 b r _ h (see 46 refl).no_start refl refl
token_reads b r question h fits = mark_reads 63 b r _ h (see 63 refl).no_start refl refl
token_reads b r star h fits =
    let t : next (42 ∷ r) ≡ Some (star, r) = rw ((see 42 refl).no_start, fits) refl in ap next h ∙ t
token_reads b r stars h fits =
    let t : next (42 ∷ 42 ∷ r) ≡ Some (stars, r) = rw ((see 42 refl).no_start) refl in ap next h ∙ t
token_reads b r plus h fits =
    let t : next (43 ∷ r) ≡ Some (plus, r) = rw ((see 43 refl).no_start, fits) refl in ap next h ∙ t
token_reads b r pluses h fits =
    let t : next (43 ∷ 43 ∷ r) ≡ Some (pluses, r) = rw ((see 43 refl).no_start) refl in ap next h ∙ t
token_reads b r open_group h fits = mark_reads 40 b r _ h (see 40 refl).no_start refl refl
token_reads b r close_group h fits = mark_reads 41 b r _ h (see 41 refl).no_start refl refl
token_reads b r open_set h fits = mark_reads 91 b r _ h (see 91 refl).no_start refl refl
token_reads b r close_set h fits = mark_reads 93 b r _ h (see 93 refl).no_start refl refl
token_reads b r tilde h fits = mark_reads 126 b r _ h (see 126 refl).no_start refl refl
