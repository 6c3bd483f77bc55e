-- Words, strings and numbers as relations and as functions.
use Rattle.std.proofs.Common.{◌≡◌, refl, sym, ap, ap₂, ◌∙◌, subst, ℕ, List, [], ◌∷◌, ◌++◌, inl, inr, Option, Some, None}
use Rattle.std.proofs.lemmas.Bool.{eqb-true, eq-eqb}
use Rattle.std.specs.Prelude.{Bool, true, false, ◌&&◌, ◌==◌, if◌then◌else◌, IsTrue, option_map}
use Rattle.std.specs.List.{AllByRecursion}
use Rattle.std.specs.Char.{char_set_contains}
use Rattle.ix_model.specs.Spelling.Characters.{is_name_part}
use Rattle.ix_model.specs.Spelling.Words.{IsRun, gives_back, ends_run, IsWord}
use Rattle.ix_model.specs.Spelling.Spells.{escaped, IsOneLine, is_hex_digit}
use Rattle.ix_model.proofs.Booleans.{both, and_false, not_false, false_not}
use Rattle.ix_spelling_laws.specs.Reading.Lexing.{after, Read, push, word_of, digits_of, quoted, closed, begins}
use Rattle.ix_spelling_laws.proofs.CharacterFacts.{stop_is_part}
use Rattle.ix_spelling_laws.proofs.SpacingFacts.{after_is_all, all_is_after}

-- ---- words

abbrev is_final : ℕ → List ℕ → Bool
is_final x c = (x == 46) && (ends_run c && gives_back (after c))

-- a run's character that is no final full stop is read on
goes_on : (x : ℕ) (c : List ℕ) → is_name_part x ≡ true → is_final x c ≡ false → word_of (x ∷ c) ≡ push x (word_of c)
goes_on x c p q = rw (p, q) refl

not_final : (x : ℕ) (xs rest : List ℕ) → IsRun xs → IsWord (x ∷ xs) rest → is_final x (xs ++ rest) ≡ false
not_final x [] rest run (inl (r, e, a, h)) =
    let p : r ≡ after rest = all_is_after rest r a in
    let q : (x == 46) && gives_back r ≡ false = not_false _ h in
    let q2 : (x == 46) && gives_back (after rest) ≡ false = subst (λ (z : List ℕ). (x == 46) && gives_back z ≡ false) p q in
    rw e q2
not_final x [] rest run (inr (r, more, e, k, a, h)) =
    let p : ends_run rest ≡ false = ap ends_run e ∙ rw stop_is_part refl in
    rw p (and_false (x == 46))
not_final x (y ∷ ys) rest run w = rw run.0 (and_false (x == 46))

tail_word : (x : ℕ) (xs rest : List ℕ) → IsWord (x ∷ xs) rest → IsWord xs rest
tail_word x [] rest (inl (r, e, a, h)) = inl (r, e, a, refl)
tail_word x (y ∷ ys) rest (inl (r, e, a, h)) = inl (r, e, a, h)
tail_word x xs rest (inr h) = inr h

pub word_reads : (name rest : List ℕ) → IsRun name → IsWord name rest → word_of (name ++ rest) ≡ (name, rest)
word_reads [] [] run (inl w) = refl
word_reads [] (y ∷ c) run (inl (r, e, a, h)) = rw (not_false _ e) refl
word_reads [] [] run (inr (r, more, e, k, a, h)) = absurd (cc e)
word_reads [] (y ∷ c) run (inr (r, more, e, k, a, h)) =
    let p : r ≡ after more = all_is_after more r a in
    let h2 : gives_back (after more) ≡ true = subst (λ (z : List ℕ). gives_back z ≡ true) p h in
    let t : word_of (46 ∷ more) ≡ ([], 46 ∷ more) = rw (stop_is_part, k, h2) refl in
    ap word_of e ∙ t ∙ ap (λ (z : List ℕ). ([], z)) (sym e)
word_reads (x ∷ xs) rest run w =
    goes_on x (xs ++ rest) run.0 (not_final x xs rest run.1 w) ∙ ap (push x) (word_reads xs rest run.1 (tail_word x xs rest w))

-- what is read is a word
pub record WordRead (c name rest : List ℕ) : Type 0 where
  pub text : c ≡ name ++ rest
  pub run : IsRun name
  pub word : IsWord name rest

more_word : (x : ℕ) (c n r : List ℕ) → is_name_part x ≡ true → is_final x c ≡ false → WordRead c n r → WordRead (x ∷ c) (x ∷ n) r
more_word x c n r p q w = record { text = ap (λ z. x ∷ z) w.text; run = (p, w.run); word = go n w.text w.word }
  where
    go : (n : List ℕ) → c ≡ n ++ r → IsWord n r → IsWord (x ∷ n) r
    go n t (inr h) = inr h
    go (y ∷ ys) t (inl h) = inl h
    go [] t (inl (r2, e, a, h)) =
        let k : c ≡ r = t in
        let q2 : (x == 46) && (ends_run r && gives_back (after r)) ≡ false = subst (λ (z : List ℕ). is_final x z ≡ false) k q in
        let q3 : (x == 46) && gives_back (after r) ≡ false = sym (rw e refl) ∙ q2 in
        inl (r2, e, a, false_not _ (subst (λ (z : List ℕ). (x == 46) && gives_back z ≡ false) (sym (all_is_after r r2 a)) q3))

pub word_read : (c : List ℕ) → WordRead c (word_of c).0 (word_of c).1
word_read [] = record { text = refl; run = tt; word = inl ([], refl, after_is_all [], refl) }
word_read (x ∷ c) =
    elim (is_name_part x) as (λ b. is_name_part x ≡ b → (λ (v : Read). WordRead (x ∷ c) v.0 v.1) (if b then (if is_final x c then ([], x ∷ c) else push x (word_of c)) else ([], x ∷ c))) [
      | true ↦ λ p. elim (is_final x c) as (λ b. is_final x c ≡ b → (λ (v : Read). WordRead (x ∷ c) v.0 v.1) (if b then ([], x ∷ c) else push x (word_of c))) [
        | true ↦ λ q. record { text = refl; run = tt; word = final q }
        | false ↦ λ q. more_word x c _ _ p q (word_read c)
      ] refl
      | false ↦ λ p. record { text = refl; run = tt; word = inl (after (x ∷ c), false_not _ p, after_is_all (x ∷ c), refl) }
    ] refl
  where
    final : is_final x c ≡ true → IsWord [] (x ∷ c)
    final q =
        let a = both (x == 46) _ q in
        let b = both (ends_run c) _ a.1 in
        inr (after c, c, ap (λ y. y ∷ c) (eqb-true x 46 a.0), b.0, after_is_all c, b.1)

-- ---- numbers

pub digits_read : (ds r : List ℕ) → AllByRecursion (λ d. IsTrue (is_hex_digit d)) ds → ((x : ℕ) (c : List ℕ) → r ≡ x ∷ c → is_hex_digit x ≡ false) → digits_of (ds ++ r) ≡ (ds, r)
digits_read [] [] all ends = refl
digits_read [] (x ∷ c) all ends = rw (ends x c refl) refl
digits_read (d ∷ ds) r all ends =
    let p : digits_of (d ∷ (ds ++ r)) ≡ push d (digits_of (ds ++ r)) = rw all.0 refl in
    p ∙ ap (push d) (digits_read ds r all.1 ends)

pub digits_are : (c : List ℕ) → (c ≡ (digits_of c).0 ++ (digits_of c).1) × AllByRecursion (λ d. IsTrue (is_hex_digit d)) (digits_of c).0
digits_are [] = (refl, tt)
digits_are (x ∷ c) =
    elim (is_hex_digit x) as (λ b. is_hex_digit x ≡ b → (λ (v : Read). (x ∷ c ≡ v.0 ++ v.1) × AllByRecursion (λ d. IsTrue (is_hex_digit d)) v.0) (if b then push x (digits_of c) else ([], x ∷ c))) [
      | true ↦ λ p. (ap (λ z. x ∷ z) (digits_are c).0, (p, (digits_are c).1))
      | false ↦ λ p. (refl, tt)
    ] refl

-- ---- strings

pub string_reads : (q : ℕ) (xs r : List ℕ) → IsOneLine xs → begins q r ≡ false → quoted q (escaped q xs ++ (q ∷ r)) ≡ Some (xs, r)
string_reads q [] [] line ends = rw (same q) refl
  where
    same : (q : ℕ) → (q == q) ≡ true
    same q = eq-eqb q q refl
string_reads q [] (y ∷ r) line ends = rw (eq-eqb q q refl, ends) refl
string_reads q (x ∷ xs) r line ends =
    elim (x == q) as (λ b. (x == q) ≡ b → quoted q ((if b then q ∷ q ∷ escaped q xs else x ∷ escaped q xs) ++ (q ∷ r)) ≡ Some (x ∷ xs, r)) [
      | true ↦ λ h.
          let p : quoted q (q ∷ q ∷ (escaped q xs ++ (q ∷ r))) ≡ option_map (push q) (quoted q (escaped q xs ++ (q ∷ r))) = rw (eq-eqb q q refl) refl in
          p ∙ ap (option_map (push q)) (string_reads q xs r line.1 ends) ∙ ap (λ (z : ℕ). Some (z ∷ xs, r)) (sym (eqb-true x q h))
      | false ↦ λ h.
          let p : quoted q (x ∷ (escaped q xs ++ (q ∷ r))) ≡ option_map (push x) (quoted q (escaped q xs ++ (q ∷ r))) = rw (h, not_false _ line.0) refl in
          p ∙ ap (option_map (push x)) (string_reads q xs r line.1 ends)
    ] refl

-- what is read is a string's characters, its last quote and the rest
abbrev pub IsStringRest : ℕ → List ℕ → Option Read → Type 0
IsStringRest q c None = Unit {0}
IsStringRest q c (Some v) = IsOneLine v.0 × (c ≡ escaped q v.0 ++ (q ∷ v.1))

-- behind a quote
abbrev pub IsClosedRest : ℕ → List ℕ → Option Read → Type 0
IsClosedRest q c None = Unit {0}
IsClosedRest q c (Some v) = IsOneLine v.0 × (q ∷ c ≡ escaped q v.0 ++ (q ∷ v.1))

on_push : (q x : ℕ) (c : List ℕ) (v : Option Read) → (x == q) ≡ false → char_set_contains (10 ∷ 13 ∷ []) x ≡ false → IsStringRest q c v → IsStringRest q (x ∷ c) (option_map (push x) v)
on_push q x c None p n h = tt
on_push q x c (Some v) p n h = ((rw n refl, h.0), rw p (ap (λ z. x ∷ z) h.1))

on_double : (q y : ℕ) (c : List ℕ) (v : Option Read) → y ≡ q → char_set_contains (10 ∷ 13 ∷ []) q ≡ false → IsStringRest q c v → IsClosedRest q (y ∷ c) (option_map (push q) v)
on_double q y c None p n h = tt
on_double q y c (Some v) p n h = ((rw n refl, h.0), rw (eq-eqb q q refl) (ap₂ (λ (a : ℕ) (z : List ℕ). q ∷ a ∷ z) p h.1))

on_closed : (q x : ℕ) (c : List ℕ) (v : Option Read) → x ≡ q → IsClosedRest q c v → IsStringRest q (x ∷ c) v
on_closed q x c None p h = tt
on_closed q x c (Some v) p h = (h.0, ap (λ (y : ℕ). y ∷ c) p ∙ h.1)

mutual
  pub string_read : (q : ℕ) → char_set_contains (10 ∷ 13 ∷ []) q ≡ false → (c : List ℕ) → IsStringRest q c (quoted q c)
  string_read q n [] = tt
  string_read q n (x ∷ c) =
      elim (x == q) as (λ b. (x == q) ≡ b → IsStringRest q (x ∷ c) (if b then closed q c else (if char_set_contains (10 ∷ 13 ∷ []) x then None else option_map (push x) (quoted q c)))) [
        | true ↦ λ h. on_closed q x c (closed q c) (eqb-true x q h) (closed_read q n c)
        | false ↦ λ p. elim (char_set_contains (10 ∷ 13 ∷ []) x) as (λ b. char_set_contains (10 ∷ 13 ∷ []) x ≡ b → IsStringRest q (x ∷ c) (if b then None else option_map (push x) (quoted q c))) [
          | true ↦ λ h. tt
          | false ↦ λ h. on_push q x c (quoted q c) p h (string_read q n c)
        ] refl
      ] refl

  closed_read : (q : ℕ) → char_set_contains (10 ∷ 13 ∷ []) q ≡ false → (c : List ℕ) → IsClosedRest q c (closed q c)
  closed_read q n [] = (tt, refl)
  closed_read q n (y ∷ c) =
      elim (y == q) as (λ b. (y == q) ≡ b → IsClosedRest q (y ∷ c) (if b then option_map (push q) (quoted q c) else Some ([], y ∷ c))) [
        | true ↦ λ h. on_double q y c (quoted q c) (eqb-true y q h) n (string_read q n c)
        | false ↦ λ h. (tt, refl)
      ] refl
