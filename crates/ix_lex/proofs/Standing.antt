-- What tokens by their spans stand for.
use Rattle.std.proofs.Common.{◌≡◌, refl, sym, ap, ap₂, ◌∙◌, subst, ℕ, List, [], ◌∷◌, ◌++◌, Option, Some, length, ◌<◌, ◌≤◌, ◌-◌, arith, take, drop, length-drop, length-append, ◌+◌}
use Rattle.std.proofs.lemmas.Bool.{ltb-true, ltb-false, lt-ltb, le-ltb}
use Rattle.std.proofs.lemmas.List.{take_at}
use Rattle.std.specs.Prelude.{Bool, true, false, ◌==◌, if◌then◌else◌, nat_lt, unwrap_or}
use Rattle.ix_model.specs.Spelling.Spells.{StringAt}
use Rattle.ix_spelling_laws.specs.Reading.Lexing as lexing
use Rattle.ix_spelling_laws.specs.Reading.Lexing.{Lexeme, Lexes, next, after, mark_of}
use Rattle.ix_spelling_laws.proofs.ReadingComplete.{lexes_once, same_some}
use Rattle.ix_spelling_laws.proofs.LexemeFacts.{string_reads}
use Rattle.ix_spelling_laws.proofs.TokenFacts.{token_read}
use Rattle.ix_lex.specs.declared.token.Tok.{Tok}
use Rattle.ix_lex.specs.declared.token.Tok.TheVariants as tok
use Rattle.ix_lex.specs.declared.token.Token.{Token}
use Rattle.ix_lex.specs.Spans.{AreTokens, content, chars_of, lexed, lexeme_by, lexeme_of, mark_in}
use Rattle.ix_lex.specs.Strings.{IsString}
use Rattle.ix_lex.proofs.Lexemes.{written, written_rest}

-- ---- the tokens that spans stand for

same_gap : (n from low : ℕ) → from ≤ low → low < n → nat_lt from low ≡ nat_lt (n - low) (n - from)
same_gap n from low o l =
    elim (nat_lt from low) as (λ b. nat_lt from low ≡ b → b ≡ nat_lt (n - low) (n - from)) [
      | true ↦ λ e. let k : from < low = ltb-true from low e in sym (lt-ltb (n - low) (n - from) (omega (arith, k, o, l)))
      | false ↦ λ e. let k : low ≤ from = ltb-false from low e in sym (le-ltb (n - low) (n - from) (omega (arith, k, o, l)))
    ] refl

pub stand_for : (c : List ℕ) (from : ℕ) (ts : List Token) → AreTokens c from ts → Lexes (lexed c from ts) (drop from c)
stand_for c from [] h = h
stand_for c from (t ∷ ts) (o, l, w, e, n, h) =
    let g : nat_lt from t.low ≡ nat_lt (length (drop t.low c)) (length (drop from c)) =
    same_gap (length c) from t.low o (omega (arith, l, w)) ∙ ap₂ nat_lt (sym (length-drop t.low c)) (sym (length-drop from c)) in
    (drop t.high c, g ∙ ap (λ (z : List ℕ). nat_lt (length z) (length (drop from c))) e, ap next (sym e) ∙ n, stand_for c t.high ts h)

pub stand_for_all : (c : List ℕ) (ts : List Token) (us : List lexing.Token) → AreTokens c 0 ts → Lexes us c → us ≡ lexed c 0 ts
stand_for_all c ts us h k = lexes_once us (lexed c 0 ts) c k (stand_for c 0 ts h)

-- ---- one list of spans

-- the kind of a token, by what it stands for
abbrev kind_of : Lexeme → Tok
kind_of (lexing.word n) = tok.Word
kind_of (lexing.quote xs) = tok.Quote
kind_of (lexing.hex ds) = tok.Hex
kind_of lexing.stars = tok.Stars
kind_of lexing.pluses = tok.Pluses
kind_of _ = tok.Punct

abbrev IsPunct : Option Lexeme → Type 0
IsPunct m = kind_of (unwrap_or m lexing.at) ≡ tok.Punct

or_else : (b : Bool) (k : Lexeme) (m : Option Lexeme) → kind_of k ≡ tok.Punct → IsPunct m → IsPunct (if b then Some k else m)
or_else true k m h r = h
or_else false k m h r = r

mark_punct : (x : ℕ) → IsPunct (mark_of x)
mark_punct x =
    or_else (x == 64) _ _ refl (or_else (x == 94) _ _ refl (or_else (x == 45) _ _ refl (or_else (x == 58) _ _ refl (or_else (x == 61) _ _ refl (or_else (x == 59) _ _ refl (or_else (x == 124) _ _ refl (or_else (x == 44) _ _ refl (or_else (x == 46) _ _ refl (or_else (x == 63) _ _ refl (or_else (x == 40) _ _ refl (or_else (x == 41) _ _ refl (or_else (x == 91) _ _ refl (or_else (x == 93) _ _ refl (or_else (x == 126) _ _ refl refl))))))))))))))

in_mark : (cs : List ℕ) → kind_of (mark_in cs) ≡ tok.Punct
in_mark [] = refl
in_mark (x ∷ cs) = pick (x == 42) (x == 43)
  where
    pick : (a b : Bool) → kind_of (if a then lexing.star else (if b then lexing.plus else unwrap_or (mark_of x) lexing.at)) ≡ tok.Punct
    pick true b = refl
    pick false true = refl
    pick false false = mark_punct x

kind_is : (k : Tok) (cs : List ℕ) → kind_of (lexeme_by k cs) ≡ k
kind_is tok.Word cs = refl
kind_is tok.Quote cs = refl
kind_is tok.Hex cs = refl
kind_is tok.Stars cs = refl
kind_is tok.Pluses cs = refl
kind_is tok.Punct cs = in_mark cs

same_place : (c : List ℕ) (i j : ℕ) → i ≤ length c → j ≤ length c → drop i c ≡ drop j c → i ≡ j
same_place c i j h k e = omega (arith, ap length e, length-drop i c, length-drop j c)

same_token : (t u : Token) → t.kind ≡ u.kind → t.low ≡ u.low → t.high ≡ u.high → t ≡ u
same_token t u e f g =
    let made : Tok → ℕ → ℕ → Token = λ k i j. record { kind = k; low = i; high = j } in
    ap (λ (k : Tok). made k t.low t.high) e ∙ ap₂ (made u.kind) f g

nothing_left : (c : List ℕ) (from : ℕ) (t : Token) (ts : List Token) → AreTokens c from (t ∷ ts) → after (drop from c) ≡ [] → ⊥
nothing_left c from t ts (o, l, w, e, n, h) k = omega (arith, ap length (e ∙ k), length-drop t.low c, l, w)

pub spans_once : (c : List ℕ) (from : ℕ) (ts us : List Token) → AreTokens c from ts → AreTokens c from us → ts ≡ us
spans_once c from [] [] h k = refl
spans_once c from [] (u ∷ us) h k = absurd (nothing_left c from u us k h)
spans_once c from (t ∷ ts) [] h k = absurd (nothing_left c from t ts h k)
spans_once c from (t ∷ ts) (u ∷ us) (o, l, w, e, n, h) (p, m, v, f, r, k) =
    let low : t.low ≡ u.low = same_place c t.low u.low (omega (arith, l, w)) (omega (arith, m, v)) (e ∙ sym f) in
    let both : (lexeme_of c t, drop t.high c) ≡ (lexeme_of c u, drop u.high c) = same_some _ _ (sym n ∙ ap (λ (z : ℕ). next (drop z c)) low ∙ r) in
    let high : t.high ≡ u.high = same_place c t.high u.high w v (ap (λ (z : Lexeme × List ℕ). z.1) both) in
    let kind : t.kind ≡ u.kind = sym (kind_is t.kind (chars_of c t)) ∙ ap (λ (z : Lexeme × List ℕ). kind_of z.0) both ∙ kind_is u.kind (chars_of c u) in
    ap₂ (λ (x : Token) (xs : List Token). x ∷ xs) (same_token t u kind low high) (spans_once c t.high ts us h (subst (λ (z : ℕ). AreTokens c z us) (sym high) k))

-- ---- strings

whole : (d r xs : List ℕ) (n : ℕ) → StringAt d r xs → length d ≡ n + length r → IsString (take n d)
whole d r xs n (q, h, line, e) w =
    let s : IsString (q ∷ written q xs) = (h, (xs, string_reads q xs [] line refl)) in
    let t : d ≡ (q ∷ written q xs) ++ r = e ∙ ap (λ (z : List ℕ). q ∷ z) (written_rest q xs r) in
    let l : length (q ∷ written q xs) ≡ n = omega (arith, ap length t, length-append (q ∷ written q xs) r, w) in
    subst IsString (sym (ap (take n) t ∙ take_at (q ∷ written q xs) r n l)) s

pub quotes_whole : (c : List ℕ) (from : ℕ) (t : Token) (ts : List Token) → AreTokens c from (t ∷ ts) → t.kind ≡ tok.Quote → IsString (chars_of c t)
quotes_whole c from t ts (o, l, w, e, n, h) k =
    let d = drop t.low c in
    let r = drop t.high c in
    let xs = content (chars_of c t) in
    let read : next d ≡ Some (lexing.quote xs, r) = n ∙ ap (λ (z : Tok). Some (lexeme_by z (chars_of c t), r)) k in
    whole d r xs (t.high - t.low) (token_read d r (lexing.quote xs) read) (omega (arith, length-drop t.low c, length-drop t.high c, l, w))
