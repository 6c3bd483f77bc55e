-- The loop over tokens.
use Rattle.std.proofs.Common.{◌≡◌, refl, sym, ap, ◌∙◌, subst, ℕ, List, [], ◌∷◌, ◌++◌, append_assoc, Some, None, length, ◌<◌, ◌≤◌, arith, drop, length-drop}
use Rattle.std.proofs.lemmas.List.{append-nil}
use Rattle.ix_spelling_laws.specs.Reading.Lexing as lexing
use Rattle.ix_spelling_laws.specs.Reading.Lexing.{Lexeme, Lexes, next, after, has_gap}
use Rattle.ix_spelling_laws.proofs.ReadingComplete.{same_some}
use Rattle.ix_spelling_laws.proofs.SpacingFacts.{after_again}
use Rattle.ix_lex.specs.declared.token.Token.{Token}
use Rattle.ix_lex.specs.Spans.{AreTokens, lexeme_of}
use Rattle.ix_lex.specs.Turns.{IsAt, AreTokensBefore}

-- tokens from behind some spacing are tokens from before it
pub over_spacing : (c : List ℕ) (from low : ℕ) (ts : List Token) → from ≤ low → drop low c ≡ after (drop from c) → AreTokens c low ts → AreTokens c from ts
over_spacing c from low [] o e h = sym (after_again (drop from c)) ∙ ap after (sym e) ∙ h
over_spacing c from low (t ∷ ts) o e (p, q, r, s, n, h) = (omega (arith, o, p), q, r, s ∙ ap after e ∙ after_again (drop from c), n, h)

-- where characters are tokens and spacing, so are those behind the spacing at their beginning
behind_spacing : (d e : List ℕ) (ts : List lexing.Token) → e ≡ after d → Lexes ts d → (us : List lexing.Token) × Lexes us e
behind_spacing d e [] p h = ([], ap after p ∙ after_again d ∙ h)
behind_spacing d e (t ∷ ts) p (r, g, n, h) = (record { gap = has_gap e; lexeme = t.lexeme } ∷ ts, (r, refl, ap next (ap after p ∙ after_again d) ∙ n, h))

-- and so are those behind the first token
behind_token : (d r : List ℕ) (k : Lexeme) (ts : List lexing.Token) → d ≡ after d → next d ≡ Some (k, r) → Lexes ts d → (us : List lexing.Token) × Lexes us r
behind_token d r k [] s n h = let e : None ≡ Some (k, r) = ap next (sym (s ∙ h)) ∙ n in absurd (cc e)
behind_token d r k (t ∷ ts) s n (q, g, m, h) =
    let p : (t.lexeme, q) ≡ (k, r) = same_some _ _ (sym (ap next s ∙ m) ∙ n) in
    (ts, subst (λ (z : List ℕ). Lexes ts z) (ap (λ (v : Lexeme × List ℕ). v.1) p) h)

still_spaced : (c : List ℕ) (from low : ℕ) → drop low c ≡ after (drop from c) → drop low c ≡ after (drop low c)
still_spaced c from low e = e ∙ sym (after_again (drop from c)) ∙ ap after (sym e)

pub before_first : (c : List ℕ) (low : ℕ) → drop low c ≡ after (drop 0 c) → low ≤ length c → AreTokensBefore c [] low
before_first c low e w = record {
  within = w;
  spaced = still_spaced c 0 low e;
  completes = λ ts h. over_spacing c 0 low ts (omega arith) e h;
  rest_lexes = λ ts h. behind_spacing c (drop low c) ts e h;
}

pub before_next : (c : List ℕ) (found : List Token) (at low : ℕ) (t : Token) → AreTokensBefore c found at → IsAt c at t → drop low c ≡ after (drop t.high c) → t.high ≤ low → low ≤ length c → AreTokensBefore c (found ++ t ∷ []) low
before_next c found at low t h k e o w = record {
  within = w;
  spaced = still_spaced c t.high low e;
  completes = λ ts a.
      let b : AreTokens c at (t ∷ ts) = (omega (arith, k.starts), omega (arith, k.starts, k.some), k.within, ap (λ (z : ℕ). drop z c) k.starts ∙ h.spaced, ap (λ (z : ℕ). next (drop z c)) k.starts ∙ k.read, over_spacing c t.high low ts o e a) in
      subst (λ (z : List Token). AreTokens c 0 z) (sym (append_assoc found (t ∷ []) ts)) (h.completes (t ∷ ts) b);
  rest_lexes = λ ts a.
      let (us, b) = h.rest_lexes ts a in
      let (vs, d) = behind_token (drop at c) (drop t.high c) (lexeme_of c t) us h.spaced k.read b in
      behind_spacing (drop t.high c) (drop low c) vs e d;
}

-- at the end of the characters all their tokens are found
pub all_found : (c : List ℕ) (found : List Token) (at : ℕ) → length c ≤ at → AreTokensBefore c found at → AreTokens c 0 found
all_found c found at l h = subst (λ (z : List Token). AreTokens c 0 z) (append-nil found) (h.completes [] (ap after none))
  where
    empty : (d : List ℕ) → length d ≡ 0 → d ≡ []
    empty [] e = refl
    empty (x ∷ d) e = absurd (omega (arith, e))

    none : drop at c ≡ []
    none = empty (drop at c) (omega (arith, length-drop at c, l))

-- where no token begins, the characters have no tokens
pub none_at_all : (c : List ℕ) (found : List Token) (at : ℕ) → at < length c → next (drop at c) ≡ None → AreTokensBefore c found at → (ts : List lexing.Token) → Lexes ts c → ⊥
none_at_all c found at l n h ts k = let (us, m) = h.rest_lexes ts k in refused us m
  where
    refused : (us : List lexing.Token) → Lexes us (drop at c) → ⊥
    refused [] m = let e : drop at c ≡ [] = h.spaced ∙ m in omega (arith, ap length e, length-drop at c, l)
    refused (u ∷ us) (r, g, m, _) = let e : None ≡ Some (u.lexeme, r) = sym n ∙ ap next h.spaced ∙ m in cc e
