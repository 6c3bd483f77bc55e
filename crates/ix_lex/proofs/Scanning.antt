-- The loops over characters.
use Rattle.std.proofs.Common.{◌≡◌, refl, sym, ap, ap₂, ◌∙◌, subst, ℕ, zero, suc, List, [], ◌∷◌, length, ◌<◌, ◌≤◌, ◌+◌, ◌-◌, arith, drop, get_or}
use Rattle.std.proofs.Math.Dec.{eqb-suc-zero}
use Rattle.std.proofs.lemmas.Bool.{eqb-true, eq-eqb}
use Rattle.std.proofs.lemmas.List.{drop_more}
use Rattle.std.specs.Prelude.{Bool, true, false, not, ◌&&◌, ◌||◌, ◌==◌, if◌then◌else◌}
use Rattle.ix_model.specs.Spelling.Characters.{is_blank, is_name_part}
use Rattle.ix_model.specs.Spelling.Spells.{is_hex_digit}
use Rattle.ix_model.specs.Spelling.Words.{gives_back, ends_run}
use Rattle.ix_spelling_laws.specs.Reading.Lexing.{spaced, after, word_of, digits_of, push, Read}
use Rattle.ix_lex.specs.Scans.{ends_word, deeper, opening, is_solid, leaves}
use Rattle.ix_spelling_laws.proofs.CharacterFacts.{brace_no_blank, close_no_blank}

-- ---- spacing

close_is_solid : is_solid 125 ≡ true
close_is_solid = rw close_no_blank refl

more_turn : (m x : ℕ) (s c : List ℕ) → spaced (suc m) s (x ∷ c) ≡ spaced (deeper (suc m) x) s c
more_turn m x s c =
    let up : suc (suc m) ≡ suc m + 1 = omega arith in
    let down : m ≡ suc m - 1 = omega arith in
    elim (x == 123) as (λ b. (x == 123) ≡ b → spaced (suc m) s (x ∷ c) ≡ spaced (if b then suc m + 1 else (if x == 125 then suc m - 1 else suc m)) s c) [
      | true ↦ λ e. let k : spaced (suc m) s (x ∷ c) ≡ spaced (suc (suc m)) s c = rw e refl in k ∙ ap (λ (z : ℕ). spaced z s c) up
      | false ↦ λ e. elim (x == 125) as (λ b. (x == 125) ≡ b → spaced (suc m) s (x ∷ c) ≡ spaced (if b then suc m - 1 else suc m) s c) [
        | true ↦ λ f. let k : spaced (suc m) s (x ∷ c) ≡ spaced m s c = rw (e, f) refl in k ∙ ap (λ (z : ℕ). spaced z s c) down
        | false ↦ λ f. rw (e, f) refl
      ] refl
    ] refl

-- a character that is passed
one_turn : (n x : ℕ) (s c : List ℕ) → (n ≡ 0 → is_solid x ≡ false) → spaced n s (x ∷ c) ≡ spaced (deeper n x) (if (n == 0) && (x == 123) then x ∷ c else s) c
one_turn zero x s c h =
    elim (x == 123) as (λ b. (x == 123) ≡ b → spaced zero s (x ∷ c) ≡ spaced (if b then zero + 1 else (if x == 125 then zero - 1 else zero)) (if b then x ∷ c else s) c) [
      | true ↦ λ e. let k : x ≡ 123 = eqb-true x 123 e in let q : spaced zero s (123 ∷ c) ≡ spaced 1 (123 ∷ c) c = rw brace_no_blank refl in subst (λ (y : ℕ). spaced zero s (y ∷ c) ≡ spaced 1 (y ∷ c) c) (sym k) q
      | false ↦ λ e. elim (x == 125) as (λ b. (x == 125) ≡ b → spaced zero s (x ∷ c) ≡ spaced (if b then zero - 1 else zero) s c) [
        | true ↦ λ f. absurd (cc (h refl, close_is_solid, ap is_solid (eqb-true x 125 f)))
        | false ↦ λ f. pass (is_blank x) refl e (h refl)
      ] refl
    ] refl
  where
    pass : (a : Bool) → is_blank x ≡ a → (x == 123) ≡ false → is_solid x ≡ false → spaced zero s (x ∷ c) ≡ spaced zero s c
    pass true p e k = rw p refl
    pass false p e k = let q : is_solid x ≡ true = rw (p, e) refl in absurd (cc (q, k))
one_turn (suc m) x s c h =
    let e : (if (suc m == 0) && (x == 123) then x ∷ c else s) ≡ s = rw (eqb-suc-zero m) refl in
    more_turn m x s c ∙ ap (λ (z : List ℕ). spaced (deeper (suc m) x) z c) (sym e)

opening_drop : (b : Bool) (at saved : ℕ) (text : List ℕ) → drop (if b then at else saved) text ≡ (if b then drop at text else drop saved text)
opening_drop true at saved text = refl
opening_drop false at saved text = refl

stays : (n x : ℕ) → leaves n x ≡ false → n ≡ 0 → is_solid x ≡ false
stays n x h e =
    let k : (n == 0) ≡ true = eq-eqb n 0 e in
    let q : leaves n x ≡ is_solid x = rw k refl in sym q ∙ h

spaces_turn : (text : List ℕ) (n at saved : ℕ) → at < length text → leaves n (get_or text at 0) ≡ false
    → spaced n (drop saved text) (drop at text) ≡ spaced (deeper n (get_or text at 0)) (drop (opening n (get_or text at 0) at saved) text) (drop (at + 1) text)
spaces_turn text n at saved lt h =
    let x = get_or text at 0 in
    let e : drop at text ≡ x ∷ drop (at + 1) text = drop_more text at 0 lt in
    let k = one_turn n x (drop saved text) (drop (at + 1) text) (stays n x h) in
    let b = (n == 0) && (x == 123) in
    let q : (if b then x ∷ drop (at + 1) text else drop saved text) ≡ drop (opening n x at saved) text = ap (λ (z : List ℕ). if b then z else drop saved text) (sym e) ∙ sym (opening_drop b at saved text) in
    ap (spaced n (drop saved text)) e ∙ k ∙ ap (λ (z : List ℕ). spaced (deeper n x) z (drop (at + 1) text)) q

-- ---- words and numbers

word_step : (x : ℕ) (c : List ℕ) → ends_word (x ∷ c) ≡ false → length (word_of (x ∷ c)).0 ≡ 1 + length (word_of c).0
word_step x c h = go (is_name_part x) ((x == 46) && (ends_run c && gives_back (after c))) refl refl h
  where
    go : (a b : Bool) → is_name_part x ≡ a → ((x == 46) && (ends_run c && gives_back (after c))) ≡ b → not a || b ≡ false → length (word_of (x ∷ c)).0 ≡ 1 + length (word_of c).0
    go true false p q k = let e : word_of (x ∷ c) ≡ push x (word_of c) = rw (p, q) refl in ap (λ (v : Read). length v.0) e ∙ omega arith
    go true true p q k = absurd (cc k)
    go false b p q k = absurd (cc k)

pub word_stop : (r : List ℕ) → ends_word r ≡ true → length (word_of r).0 ≡ 0
word_stop [] h = refl
word_stop (x ∷ c) h = go (is_name_part x) ((x == 46) && (ends_run c && gives_back (after c))) refl refl h
  where
    go : (a b : Bool) → is_name_part x ≡ a → ((x == 46) && (ends_run c && gives_back (after c))) ≡ b → not a || b ≡ true → length (word_of (x ∷ c)).0 ≡ 0
    go true true p q k = let e : word_of (x ∷ c) ≡ ([], x ∷ c) = rw (p, q) refl in ap (λ (v : Read). length v.0) e
    go true false p q k = absurd (cc k)
    go false b p q k = let e : word_of (x ∷ c) ≡ ([], x ∷ c) = rw p refl in ap (λ (v : Read). length v.0) e

pub word_turn : (text : List ℕ) (n : ℕ) → n < length text → ends_word (drop n text) ≡ false → length (word_of (drop n text)).0 ≡ 1 + length (word_of (drop (n + 1) text)).0
word_turn text n lt h =
    let e : drop n text ≡ get_or text n 0 ∷ drop (n + 1) text = drop_more text n 0 lt in
    ap (λ (z : List ℕ). length (word_of z).0) e ∙ word_step (get_or text n 0) (drop (n + 1) text) (sym (ap ends_word e) ∙ h)

pub digit_turn : (text : List ℕ) (n : ℕ) → n < length text → is_hex_digit (get_or text n 0) ≡ true → length (digits_of (drop n text)).0 ≡ 1 + length (digits_of (drop (n + 1) text)).0
digit_turn text n lt h =
    let x = get_or text n 0 in
    let c = drop (n + 1) text in
    let e : drop n text ≡ x ∷ c = drop_more text n 0 lt in
    let k : digits_of (x ∷ c) ≡ push x (digits_of c) = rw h refl in
    ap (λ (z : List ℕ). length (digits_of z).0) e ∙ ap (λ (v : Read). length v.0) k ∙ omega arith

pub digit_stop : (text : List ℕ) (n : ℕ) → n < length text → is_hex_digit (get_or text n 0) ≡ false → length (digits_of (drop n text)).0 ≡ 0
digit_stop text n lt h =
    let x = get_or text n 0 in
    let c = drop (n + 1) text in
    let e : drop n text ≡ x ∷ c = drop_more text n 0 lt in
    let k : digits_of (x ∷ c) ≡ ([], x ∷ c) = rw h refl in
    ap (λ (z : List ℕ). length (digits_of z).0) e ∙ ap (λ (v : Read). length v.0) k

deeper_small : (n x : ℕ) → deeper n x ≤ n + 1
deeper_small n x =
    elim (x == 123) as (λ b. (if b then n + 1 else (if x == 125 then n - 1 else n)) ≤ n + 1) [
      | true ↦ omega arith
      | false ↦ elim (x == 125) as (λ b. (if b then n - 1 else n) ≤ n + 1) [ true ↦ omega arith | false ↦ omega arith ]
    ]

opening_within : (n x at saved most : ℕ) → at ≤ most → saved ≤ most → opening n x at saved ≤ most
opening_within n x at saved most h k = elim ((n == 0) && (x == 123)) as (λ b. (if b then at else saved) ≤ most) [ true ↦ h | false ↦ k ]

-- what the loop over spacing keeps
pub record Spaces (text : List ℕ) (depth saved at : ℕ) : Type 0 where
  pub run : spaced depth (drop saved text) (drop at text) ≡ after text
  pub small : depth ≤ at
  pub within : saved ≤ length text

-- and over a character
pub spaces_next : (text : List ℕ) (depth saved at x d s : ℕ) → at < length text → x ≡ get_or text at 0 → leaves depth x ≡ false → d ≡ deeper depth x → s ≡ opening depth x at saved → Spaces text depth saved at → Spaces text d s (at + 1)
spaces_next text depth saved at x d s lt e h p q inv =
    let h2 : leaves depth (get_or text at 0) ≡ false = subst (λ (y : ℕ). leaves depth y ≡ false) e h in
    let p2 : d ≡ deeper depth (get_or text at 0) = subst (λ (y : ℕ). d ≡ deeper depth y) e p in
    let q2 : s ≡ opening depth (get_or text at 0) at saved = subst (λ (y : ℕ). s ≡ opening depth y at saved) e q in
    let k : spaced d (drop s text) (drop (at + 1) text) ≡ spaced (deeper depth (get_or text at 0)) (drop (opening depth (get_or text at 0) at saved) text) (drop (at + 1) text) = ap₂ (λ (a b : ℕ). spaced a (drop b text) (drop (at + 1) text)) p2 q2 in
    let o : opening depth (get_or text at 0) at saved ≤ length text = opening_within depth (get_or text at 0) at saved (length text) (omega (arith, lt)) inv.within in
    record {
      run = k ∙ sym (spaces_turn text depth at saved lt h2) ∙ inv.run;
      small = omega (arith, p2, deeper_small depth (get_or text at 0), inv.small);
      within = omega (arith, q2, o);
    }
