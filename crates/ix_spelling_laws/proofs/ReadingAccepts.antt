-- What it says that a state reads on to a grammar.
use Rattle.std.proofs.Common.{◌≡◌, refl, sym, ap, ◌∙◌, subst, ℕ, List, [], ◌∷◌, length, ◌<◌, ◌⊎◌, inl, inr, arith, Option, Some, None}
use Rattle.std.proofs.lemmas.Bool.{lt-ltb, le-ltb, eqb-true}
use Rattle.std.specs.Prelude.{Bool, true, false, ◌||◌, ◌==◌, if◌then◌else◌, codes, option_map}
use Rattle.std.specs.Char.{char_set_contains}
use Rattle.ix_model.specs.declared.grammar.Grammar.{Grammar}
use Rattle.ix_model.specs.declared.grammar.Factor.{Factor}
use Rattle.ix_model.specs.Spelling.Characters.{is_blank, is_name_start}
use Rattle.ix_model.specs.Spelling.Spacing.{S, RS, no_spacing}
use Rattle.ix_model.specs.Spelling.Spells.{is_hex_digit}
use Rattle.ix_model.proofs.Booleans.{eqb-sym}
use Rattle.ix_spelling_laws.specs.Reading.Lexing.{Lexeme, word, quote, star, stars, plus, pluses, Token, after, has_gap, Lexes, next, Read, quoted, word_of, begins, mark_of, rest_of}
use Rattle.ix_spelling_laws.specs.Reading.Tokens.{TokenAt}
use Rattle.ix_spelling_laws.specs.Reading.Machine as M
use Rattle.ix_spelling_laws.proofs.CharacterFacts.{visible, see, digit_apart, begins_none}
use Rattle.ix_spelling_laws.proofs.SpacingFacts.{spacing_runs, spacing_less}
use Rattle.ix_spelling_laws.proofs.TokenFacts.{token_reads, token_solid, Fits}

-- from the state, the characters' tokens lead to the grammar
abbrev pub Accepts : M.Phase → M.Work → List ℕ → Grammar → Type 0
Accepts p w c g = (ts : List Token) × Lexes ts c × (M.run ts (record { phase = p; work = w }) ≡ Some g)

abbrev pub AcceptsFrom : M.State → List ℕ → Grammar → Type 0
AcceptsFrom s c g = Accepts s.phase s.work c g

pub token_accepts : (p : M.Phase) (w : M.Work) (c b r : List ℕ) (k : Lexeme) (s : M.State) (g : Grammar) → S c b → TokenAt b r k → Fits k r → M.step p w (has_gap c) k ≡ Some s → AcceptsFrom s r g → Accepts p w c g
token_accepts p w c b r k s g sp t f e (ts, l, h) =
    let a : after c ≡ b = spacing_runs c b sp ∙ token_solid b r k t in
    (record { gap = has_gap c; lexeme = k } ∷ ts, (r, refl, ap next a ∙ token_reads b r k t f, l), ap (λ (o : Option M.State). M.then_run o (λ u. M.run ts u)) e ∙ h)

no_gap : (c : List ℕ) → after c ≡ c → has_gap c ≡ false
no_gap c e = le-ltb _ _ (omega (arith, ap length e))

-- a token that stands right here
pub reads : (p : M.Phase) (w : M.Work) (b r : List ℕ) (k : Lexeme) (s : M.State) (g : Grammar) → TokenAt b r k → Fits k r → M.step p w false k ≡ Some s → AcceptsFrom s r g → Accepts p w b g
reads p w b r k s g t f e h =
    let a : has_gap b ≡ false = no_gap b (token_solid b r k t) in
    let q : M.step p w (has_gap b) k ≡ Some s = ap (λ (z : Bool). M.step p w z k) a ∙ e in
    token_accepts p w b b r k s g (no_spacing b) t f q h

-- ---- spacing

abbrev pub IsQuiet : M.Phase → Type 0
IsQuiet M.version_next = ⊥
IsQuiet M.rule_next = ⊥
IsQuiet M.ixml = ⊥
IsQuiet _ = Unit {0}

quiet : (p : M.Phase) → IsQuiet p → (w : M.Work) (k : Lexeme) (a b : Bool) → M.step p w a k ≡ M.step p w b k
quiet M.version_next q w k a b = absurd q
quiet M.rule_next q w k a b = absurd q
quiet M.ixml q w k a b = absurd q
quiet _ q w k a b = refl

pub spaced : (p : M.Phase) (w : M.Work) (c b : List ℕ) (g : Grammar) → IsQuiet p → S c b → Accepts p w b g → Accepts p w c g
spaced p w c b g q s ([], l, h) = ([], spacing_runs c b s ∙ l, h)
spaced p w c b g q s (t ∷ ts, (r, e, n, l), h) =
    (record { gap = has_gap c; lexeme = t.lexeme } ∷ ts, (r, refl, ap next (spacing_runs c b s) ∙ n, l), ap (λ (o : Option M.State). M.then_run o (λ u. M.run ts u)) (quiet p q w t.lexeme (has_gap c) t.gap) ∙ h)

pub gap_true : (c d : List ℕ) → RS c d → after d ≡ d → has_gap c ≡ true
gap_true c d (s, n) e = go (spacing_less c d s)
  where
    go : (c ≡ d) ⊎ (length d < length c) → has_gap c ≡ true
    go (inl k) = absurd (n k)
    go (inr k) = lt-ltb _ _ (omega (arith, k, ap length (spacing_runs c d s ∙ e)))

-- ---- what comes first

pub record First (p : M.Phase) (w : M.Work) (c : List ℕ) : Type 0 where
  pub lexeme : Lexeme
  pub rest : List ℕ
  pub gap : Bool
  pub is_next : next c ≡ Some (lexeme, rest)
  pub stands : M.step p w gap lexeme ≡ None → ⊥

solid : (x : ℕ) (c : List ℕ) → is_blank x ≡ false → (x == 123) ≡ false → after (x ∷ c) ≡ x ∷ c
solid x c p q = rw (p, q) refl

first : (p : M.Phase) (w : M.Work) (x : ℕ) (c : List ℕ) (g : Grammar) → is_blank x ≡ false → (x == 123) ≡ false → Accepts p w (x ∷ c) g → First p w (x ∷ c)
first p w x c g b d ([], l, h) = absurd (cc (l, solid x c b d))
first p w x c g b d (t ∷ ts, (r, e, n, l), h) = record {
  lexeme = t.lexeme;
  rest = r;
  gap = t.gap;
  is_next = ap next (sym (solid x c b d)) ∙ n;
  stands = λ q. let k : None ≡ Some g = ap (λ (o : Option M.State). M.then_run o (λ u. M.run ts u)) (sym q) ∙ h in absurd (cc k);
}

same_lexeme : (a b : Lexeme × List ℕ) → Some a ≡ Some b → b.0 ≡ a.0
same_lexeme a b e = let p : a ≡ b = cc e in ap (λ (v : Lexeme × List ℕ). v.0) (sym p)

abbrev quote_pair : Read → Lexeme × List ℕ
quote_pair v = (quote v.0, v.1)

quote_lexeme : (v : Option Read) (k : Lexeme) (r : List ℕ) → option_map quote_pair v ≡ Some (k, r) → (xs : List ℕ) × (k ≡ quote xs)
quote_lexeme None k r e = absurd (cc e)
quote_lexeme (Some v) k r e = (v.0, same_lexeme (quote v.0, v.1) (k, r) e)

quote_first : (x : ℕ) (c : List ℕ) (k : Lexeme) (r : List ℕ) → is_name_start x ≡ false → char_set_contains (codes "\"'") x ≡ true → next (x ∷ c) ≡ Some (k, r) → (xs : List ℕ) × (k ≡ quote xs)
quote_first x c k r a b e =
    let q : next (x ∷ c) ≡ option_map quote_pair (quoted x c) = rw (a, b) refl in
    quote_lexeme (quoted x c) k r (sym q ∙ e)

abbrev TakesNoQuote : M.Phase → M.Work → Type 0
TakesNoQuote p w = (xs : List ℕ) (a : Bool) → M.step p w a (quote xs) ≡ None

not_quote : (p : M.Phase) (w : M.Work) (n : ℕ) (r : List ℕ) (g : Grammar) → char_set_contains (codes "\"'") n ≡ true → char_set_contains visible n ≡ true → TakesNoQuote p w → Accepts p w r g → begins n r ≡ false
not_quote p w n [] g m v f h = refl
not_quote p w n (x ∷ c) g m v f h =
    elim (x == n) as (λ b. (x == n) ≡ b → b ≡ false) [
      | true ↦ λ e. absurd (no (eqb-true x n e))
      | false ↦ λ _. refl
    ] refl
  where
    no : x ≡ n → ⊥
    no e =
        let i = see x (ap (char_set_contains visible) e ∙ v) in
        let u = first p w x c g i.no_blank i.no_brace h in
        let q = quote_first x c u.lexeme u.rest i.no_start (ap (char_set_contains (codes "\"'")) e ∙ m) u.is_next in
        u.stands (ap (M.step p w u.gap) q.1 ∙ f q.0 u.gap)

pub no_quote : (p : M.Phase) (w : M.Work) (r : List ℕ) (g : Grammar) → TakesNoQuote p w → Accepts p w r g → (begins 34 r ≡ false) × (begins 39 r ≡ false)
no_quote p w r g f h = (not_quote p w 34 r g refl refl f h, not_quote p w 39 r g refl refl f h)

abbrev TakesNoWord : M.Phase → M.Work → Type 0
TakesNoWord p w = (n : List ℕ) (a : Bool) → M.step p w a (word n) ≡ None

other_than : (x n : ℕ) → begins_none n ≡ false → begins_none x ≡ true → (x == n) ≡ false
other_than x n m h =
    elim (x == n) as (λ b. (x == n) ≡ b → b ≡ false) [
      | true ↦ λ e. absurd (cc (h, m, ap begins_none (eqb-true x n e)))
      | false ↦ λ _. refl
    ] refl

none_of : (x : ℕ) → begins_none x ≡ true → (char_set_contains (codes "\"'") x ≡ false) × ((x == 35) ≡ false) × ((x == 42) ≡ false) × ((x == 43) ≡ false) × (mark_of x ≡ None)
none_of x h = (
  rw (eqb-sym 34 x ∙ other_than x 34 refl h, eqb-sym 39 x ∙ other_than x 39 refl h) refl,
  other_than x 35 refl h,
  other_than x 42 refl h,
  other_than x 43 refl h,
  rw (other_than x 64 refl h, other_than x 94 refl h, other_than x 45 refl h, other_than x 58 refl h, other_than x 61 refl h, other_than x 59 refl h, other_than x 124 refl h, other_than x 44 refl h, other_than x 46 refl h, other_than x 63 refl h, other_than x 40 refl h, other_than x 41 refl h, other_than x 91 refl h, other_than x 93 refl h, other_than x 126 refl h) refl,
)

word_first : (x : ℕ) (c : List ℕ) (k : Lexeme) (r : List ℕ) → is_name_start x || begins_none x ≡ true → next (x ∷ c) ≡ Some (k, r) → (n : List ℕ) × (k ≡ word n)
word_first x c k r h e =
    elim (is_name_start x) as (λ b. is_name_start x ≡ b → b || begins_none x ≡ true → (n : List ℕ) × (k ≡ word n)) [
      | true ↦ λ a _. let q : next (x ∷ c) ≡ Some (word (word_of (x ∷ c)).0, (word_of (x ∷ c)).1) = rw a refl in let z : Some (word (word_of (x ∷ c)).0, (word_of (x ∷ c)).1) ≡ Some (k, r) = sym q ∙ e in ((word_of (x ∷ c)).0, same_lexeme (word (word_of (x ∷ c)).0, (word_of (x ∷ c)).1) (k, r) z)
      | false ↦ λ a m. let f = none_of x m in let q : next (x ∷ c) ≡ None = rw (a, f.0, f.1, f.2, f.3, f.4) refl in absurd (cc (q, e))
    ] refl h

pub no_digit : (p : M.Phase) (w : M.Work) (r : List ℕ) (g : Grammar) → TakesNoWord p w → Accepts p w r g → (x : ℕ) (c : List ℕ) → r ≡ x ∷ c → is_hex_digit x ≡ false
no_digit p w r g f h x c e =
    elim (is_hex_digit x) as (λ b. is_hex_digit x ≡ b → b ≡ false) [
      | true ↦ λ d. absurd (no d)
      | false ↦ λ _. refl
    ] refl
  where
    no : is_hex_digit x ≡ true → ⊥
    no d =
        let i = digit_apart x d in
        let u = first p w x c g i.no_blank i.no_brace (subst (λ (z : List ℕ). Accepts p w z g) e h) in
        let q = word_first x c u.lexeme u.rest i.either u.is_next in
        u.stands (ap (M.step p w u.gap) q.1 ∙ f q.0 u.gap)

abbrev TakesNoStar : M.Phase → M.Work → Type 0
TakesNoStar p w = (a : Bool) → (M.step p w a star ≡ None) × (M.step p w a stars ≡ None)

abbrev pair_of : Bool → Lexeme → Lexeme → List ℕ → List ℕ → Option (Lexeme × List ℕ)
pair_of b one two c d = if b then Some (two, d) else Some (one, c)

pair_lexeme : (b : Bool) (one two : Lexeme) (c d : List ℕ) (k : Lexeme) (r : List ℕ) → pair_of b one two c d ≡ Some (k, r) → (k ≡ one) ⊎ (k ≡ two)
pair_lexeme true one two c d k r e = inr (same_lexeme (two, d) (k, r) e)
pair_lexeme false one two c d k r e = inl (same_lexeme (one, c) (k, r) e)

pub no_star : (p : M.Phase) (w : M.Work) (r : List ℕ) (g : Grammar) → TakesNoStar p w → Accepts p w r g → begins 42 r ≡ false
no_star p w [] g f h = refl
no_star p w (x ∷ c) g f h =
    elim (x == 42) as (λ b. (x == 42) ≡ b → b ≡ false) [
      | true ↦ λ e. absurd (no (eqb-true x 42 e))
      | false ↦ λ _. refl
    ] refl
  where
    no : x ≡ 42 → ⊥
    no e =
        let i = see 42 refl in
        let u = first p w 42 c g i.no_blank i.no_brace (subst (λ (z : ℕ). Accepts p w (z ∷ c) g) e h) in
        let q : next (42 ∷ c) ≡ pair_of (begins 42 c) star stars c (rest_of c) = rw i.no_start refl in
        go u.lexeme u.gap u.stands (pair_lexeme (begins 42 c) star stars c (rest_of c) u.lexeme u.rest (sym q ∙ u.is_next))
      where
        go : (k : Lexeme) (a : Bool) → (M.step p w a k ≡ None → ⊥) → (k ≡ star) ⊎ (k ≡ stars) → ⊥
        go k a s (inl e) = s (ap (M.step p w a) e ∙ (f a).0)
        go k a s (inr e) = s (ap (M.step p w a) e ∙ (f a).1)

abbrev TakesNoPlus : M.Phase → M.Work → Type 0
TakesNoPlus p w = (a : Bool) → (M.step p w a plus ≡ None) × (M.step p w a pluses ≡ None)

pub no_plus : (p : M.Phase) (w : M.Work) (r : List ℕ) (g : Grammar) → TakesNoPlus p w → Accepts p w r g → begins 43 r ≡ false
no_plus p w [] g f h = refl
no_plus p w (x ∷ c) g f h =
    elim (x == 43) as (λ b. (x == 43) ≡ b → b ≡ false) [
      | true ↦ λ e. absurd (no (eqb-true x 43 e))
      | false ↦ λ _. refl
    ] refl
  where
    no : x ≡ 43 → ⊥
    no e =
        let i = see 43 refl in
        let u = first p w 43 c g i.no_blank i.no_brace (subst (λ (z : ℕ). Accepts p w (z ∷ c) g) e h) in
        let q : next (43 ∷ c) ≡ pair_of (begins 43 c) plus pluses c (rest_of c) = rw i.no_start refl in
        go u.lexeme u.gap u.stands (pair_lexeme (begins 43 c) plus pluses c (rest_of c) u.lexeme u.rest (sym q ∙ u.is_next))
      where
        go : (k : Lexeme) (a : Bool) → (M.step p w a k ≡ None → ⊥) → (k ≡ plus) ⊎ (k ≡ pluses) → ⊥
        go k a s (inl e) = s (ap (M.step p w a) e ∙ (f a).0)
        go k a s (inr e) = s (ap (M.step p w a) e ∙ (f a).1)

-- ---- behind a factor

pub record FactorBehind (p : M.Phase) (w : M.Work) : Type 0 where
  pub is_quiet : IsQuiet p
  pub no_quotes : (xs : List ℕ) (a : Bool) → M.step p w a (quote xs) ≡ None
  pub no_words : (n : List ℕ) (a : Bool) → M.step p w a (word n) ≡ None

behind : (h : M.Hole) (f : M.Frame) (w : M.Work) (x : Factor) → FactorBehind (M.after_factor h f w x).phase (M.after_factor h f w x).work
behind M.item f w x = record { is_quiet = tt; no_quotes = λ xs a. refl; no_words = λ n a. refl }
behind (M.star_of i) f w x = record { is_quiet = tt; no_quotes = λ xs a. refl; no_words = λ n a. refl }
behind (M.plus_of i) f w x = record { is_quiet = tt; no_quotes = λ xs a. refl; no_words = λ n a. refl }

pub behind_factor : (w : M.Work) (x : Factor) → FactorBehind (M.factor_done w x).phase (M.factor_done w x).work
behind_factor w x = behind w.top.hole w.top w x
