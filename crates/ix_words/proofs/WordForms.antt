-- The forms of a word, by how `clap` and the reading of the command line look at it.
use Rattle.std.proofs.Common.{◌≡◌, ◌≢◌, refl, sym, ap, subst, ◌∙◌, ◌⊎◌, inl, inr, ℕ, suc, ◌+◌, Bool, true, false, not, cond, true≢false, List, [], ◌∷◌, ◌++◌, take, Option, Some, None, slice_get, codes, arith, ◌==◌, chars, IsUtf8, encode_utf8, encode_utf8_all}
use Rattle.std.specs.List.{before_first, position_or_len}
use Rattle.std.specs.Str.{bytes_eq}
use Rattle.std.proofs.lemmas.Slice.Eq.{bytes_eq-Decides}
use Rattle.std.proofs.lemmas.Bool.Decides.{Decides-eqb}
use Rattle.std.proofs.lemmas.Str.{chars_past_char, encode_ascii, encodes-chars}
use Rattle.clap.specs.Lexer.{long_of, short_of, name_and_value}
use Rattle.ix_model.specs.Answers.CommandLine.{IsOperand}

abbrev pub is_equals : ℕ → Bool
is_equals x = x == 61

pub data WordForm : List ℕ → Type 0 where
  ends : (w : List ℕ) → w ≡ codes "--" → WordForm w
  names : (w : List ℕ) → w ≡ codes "--workers" → WordForm w
  joins : (w val : List ℕ) → w ≡ codes "--workers=" ++ val → WordForm w
  -- `--` and another name
  strays : (w : List ℕ) (c : ℕ) (cs : List ℕ) → w ≡ 45 ∷ 45 ∷ c ∷ cs → bytes_eq (codes "workers") (before_first is_equals (c ∷ cs)) ≡ false → WordForm w
  -- `-` and a letter
  shorts : (w : List ℕ) (c : ℕ) (cs : List ℕ) → w ≡ 45 ∷ c ∷ cs → (c == 45) ≡ false → WordForm w
  plains : (w : List ℕ) → IsOperand w → WordForm w

-- the text is what stands before its first `=`, or goes on behind that
pub cut : (text : List ℕ) → (text ≡ before_first is_equals text) ⊎ ((rest : List ℕ) × (text ≡ before_first is_equals text ++ 61 ∷ rest))
cut [] = inl refl
cut (x ∷ xs) = go (x == 61) refl (cut xs)
  where
    go : (b : Bool) → (x == 61) ≡ b → (xs ≡ before_first is_equals xs) ⊎ ((rest : List ℕ) × (xs ≡ before_first is_equals xs ++ 61 ∷ rest))
        → (x ∷ xs ≡ take (cond (not b) (1 + position_or_len is_equals xs) 0) (x ∷ xs)) ⊎ ((rest : List ℕ) × (x ∷ xs ≡ take (cond (not b) (1 + position_or_len is_equals xs) 0) (x ∷ xs) ++ 61 ∷ rest))
    go true e h = inr (xs, ap (λ y. y ∷ xs) ((Decides-eqb x 61).0 e))
    go false e (inl h) =
        let one : 1 + position_or_len is_equals xs ≡ suc (position_or_len is_equals xs) = omega arith in
        inl (ap (λ ys. x ∷ ys) h ∙ sym (ap (λ n. take n (x ∷ xs)) one))
    go false e (inr (rest, h)) =
        let one : 1 + position_or_len is_equals xs ≡ suc (position_or_len is_equals xs) = omega arith in
        inr (rest, ap (λ ys. x ∷ ys) h ∙ sym (ap (λ n. take n (x ∷ xs) ++ 61 ∷ rest) one))

pub form_of : (w : List ℕ) → WordForm w
form_of [] = plains [] tt
form_of (c ∷ cs) = by_first (c == 45) refl cs
  where
    by_name : (d : ℕ) (ds : List ℕ) (b : Bool) → bytes_eq (codes "workers") (before_first is_equals (d ∷ ds)) ≡ b → WordForm (45 ∷ 45 ∷ d ∷ ds)
    by_name d ds false e = strays _ d ds refl e
    by_name d ds true e = by_cut (cut (d ∷ ds))
      where
        is : before_first is_equals (d ∷ ds) ≡ codes "workers"
        is = sym ((bytes_eq-Decides (codes "workers") (before_first is_equals (d ∷ ds))).0 e)

        by_cut : (d ∷ ds ≡ before_first is_equals (d ∷ ds)) ⊎ ((rest : List ℕ) × (d ∷ ds ≡ before_first is_equals (d ∷ ds) ++ 61 ∷ rest)) → WordForm (45 ∷ 45 ∷ d ∷ ds)
        by_cut (inl h) = names _ (ap (λ t. 45 ∷ 45 ∷ t) (h ∙ is))
        by_cut (inr (rest, h)) = joins _ rest (ap (λ t. 45 ∷ 45 ∷ t) (h ∙ ap (λ t. t ++ 61 ∷ rest) is))

    by_second : (d : ℕ) (ds : List ℕ) (b : Bool) → (d == 45) ≡ b → WordForm (45 ∷ d ∷ ds)
    by_second d ds false e = shorts _ d ds refl e
    by_second d [] true e = ends _ (ap (λ x. 45 ∷ x ∷ []) ((Decides-eqb d 45).0 e))
    by_second d (x ∷ xs) true e = subst (λ y. WordForm (45 ∷ y ∷ x ∷ xs)) (sym ((Decides-eqb d 45).0 e)) (by_name x xs _ refl)

    by_hyphen : (ds : List ℕ) → WordForm (45 ∷ ds)
    by_hyphen [] = plains _ (inr refl)
    by_hyphen (d ∷ ds) = by_second d ds _ refl

    by_first : (b : Bool) → (c == 45) ≡ b → (ds : List ℕ) → WordForm (c ∷ ds)
    by_first true e ds = subst (λ x. WordForm (x ∷ ds)) (sym ((Decides-eqb c 45).0 e)) (by_hyphen ds)
    by_first false e ds = plains _ (inl (λ f. true≢false (sym ((Decides-eqb c 45).1 f) ∙ e)))

-- how `clap` looks at a word
pub record Looks (w : List ℕ) (is_end : Bool) (long : Option (List ℕ × Option (List ℕ))) (short : Option (List ℕ)) : Type 0 where
  pub end : bytes_eq w (45 ∷ 45 ∷ []) ≡ is_end
  pub long_is : long_of w ≡ long
  pub short_is : short_of w ≡ short

pub looks_end : (w : List ℕ) → w ≡ codes "--" → Looks w true None None
looks_end w e = subst (λ x. Looks x true None None) (sym e) (record { end = refl; long_is = refl; short_is = refl })

pub looks_named : (w : List ℕ) → w ≡ codes "--workers" → Looks w false (Some (codes "workers", None)) None
looks_named w e = subst (λ x. Looks x false (Some (codes "workers", None)) None) (sym e) (record { end = refl; long_is = refl; short_is = refl })

pub looks_joined : (w val : List ℕ) → w ≡ codes "--workers=" ++ val → Looks w false (Some (codes "workers", Some val)) None
looks_joined w val e = subst (λ x. Looks x false (Some (codes "workers", Some val)) None) (sym e) (record { end = refl; long_is = refl; short_is = refl })

pub looks_stray : (w : List ℕ) (c : ℕ) (cs : List ℕ) → w ≡ 45 ∷ 45 ∷ c ∷ cs → Looks w false (Some (name_and_value (c ∷ cs))) None
looks_stray w c cs e = subst (λ x. Looks x false (Some (name_and_value (c ∷ cs))) None) (sym e) (record { end = refl; long_is = refl; short_is = refl })

pub looks_short : (w : List ℕ) (c : ℕ) (cs : List ℕ) → w ≡ 45 ∷ c ∷ cs → (c == 45) ≡ false → Looks w false None (Some (c ∷ cs))
looks_short w c cs e n = subst (λ x. Looks x false None (Some (c ∷ cs))) (sym e) (record { end = simp n refl; long_is = simp n refl; short_is = simp n refl })

pub looks_plain : (w : List ℕ) → IsOperand w → Looks w false None None
looks_plain [] h = record { end = refl; long_is = refl; short_is = refl }
looks_plain (c ∷ cs) h = go (c == 45) refl h
  where
    other : (c == 45) ≡ false → Looks (c ∷ cs) false None None
    other n = record { end = simp n refl; long_is = simp n refl; short_is = simp n refl }

    go : (b : Bool) → (c == 45) ≡ b → (c ≢ 45) ⊎ (cs ≡ []) → Looks (c ∷ cs) false None None
    go false n k = other n
    go true n (inl k) = absurd (k ((Decides-eqb c 45).0 n))
    go true n (inr k) =
        let p : codes "-" ≡ c ∷ cs = cc ((Decides-eqb c 45).0 n, k) in
        subst (λ x. Looks x false None None) p (record { end = refl; long_is = refl; short_is = refl })

-- a text that goes on behind a hyphen goes on with a character
pub a_character : (c : ℕ) (cs : List ℕ) → IsUtf8 (45 ∷ c ∷ cs) → (x : ℕ) × (slice_get (chars (c ∷ cs)) 0 ≡ Some x)
a_character c cs u = go (chars (c ∷ cs)) refl
  where
    hyphen : encode_utf8 45 ≡ 45 ∷ []
    hyphen = encode_ascii 45 (omega arith)

    whole : chars (45 ∷ c ∷ cs) ≡ 45 ∷ chars (c ∷ cs)
    whole = chars_past_char (45 ∷ c ∷ cs) (c ∷ cs) 45 u (ap (λ t. t ++ c ∷ cs) (sym hyphen))

    back : encode_utf8_all (45 ∷ chars (c ∷ cs)) ≡ 45 ∷ c ∷ cs
    back = ap encode_utf8_all (sym whole) ∙ encodes-chars (45 ∷ c ∷ cs) u

    go : (xs : List ℕ) → chars (c ∷ cs) ≡ xs → (x : ℕ) × (slice_get xs 0 ≡ Some x)
    go (x ∷ xs) e = (x, refl)
    go [] e =
        let f : 45 ∷ [] ≡ 45 ∷ c ∷ cs = ap (λ t. t ++ []) (sym hyphen) ∙ ap (λ xs. encode_utf8_all (45 ∷ xs)) (sym e) ∙ back in
        absurd (cc f)
