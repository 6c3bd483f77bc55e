-- What is entered where the only rule is one line of literals, or one repetition; and how far such texts are read.
use Rattle.std.proofs.Common.{◌≡◌, refl, ap, sym, subst, ◌∙◌, ◌⊎◌, ℕ, zero, suc, ◌≤◌, List, [], ◌∷◌, Option, None, Some, slice_get, drop, codes, arith}
use mathlib.Core.Logic.{inl, inr}
use Rattle.ix_model.specs.declared.grammar.Grammar.{Grammar}
use Rattle.ix_model.specs.declared.grammar.Mark.TheVariants.{Attribute, Hidden}
use Rattle.ix_model.specs.declared.grammar.TMark.{TMark}
use Rattle.ix_model.specs.declared.grammar.Chars.{Chars}
use Rattle.ix_model.specs.declared.grammar.Chars.TheVariants.{Quoted, Code}
use Rattle.ix_model.specs.declared.grammar.Term.{Term, One, Opt, Plus, Star, out-Term}
use Rattle.ix_model.specs.declared.grammar.Factor.{Factor, Lit, Group}
use Rattle.ix_model.specs.Matching.Codes.{characters}
use Rattle.ix_model.specs.Grammars.Written.{IsOfRule}
use Rattle.ix_model.specs.Matching.Terminals.{StandsAt, Matches}
use Rattle.ix_model.specs.Derivations.Trees.{text, group, present, absent, no_tree, and}
use Rattle.ix_model.specs.Derivations.Derives.{Derives, Calls}
use Rattle.ix_model.specs.Derivations.Entered.{IsRepetition, IsDerived, AlternativeEntered, of_first_rule, of_call, of_group, PlaceEntered, first_term, next_term, Entered, at_place, of_option, as_item, as_separator, ItemEntered, first_item, next_item, item_behind, SeparatorEntered, separator_behind}
use Rattle.ix_model.specs.Derivations.Offset.{IsReached, Offset}
use Rattle.ix_examples.specs.SmallGrammars.{alternative, literal, quoted, deleted, marked_call, of_term, commas, only_a, parts, hidden}
use Rattle.ix_examples.specs.SmallReadings.{only_ab, two_lines}
use Rattle.ix_model.proofs.Forms.{derived_form, matched_form, one_form, factor_form, term_form, out_lit, out_group, out_call, out_opt, out_plus, out_star, same_item}
use Rattle.ix_examples.proofs.Inversions.{one_alternative, of_only_rule, quoted_stands, quoted_is_text}
use Rattle.ix_examples.proofs.SmallTexts.{first}

-- the term is this literal, of any mark
abbrev pub IsLiteral : Term → List ℕ → Type 0
IsLiteral t cs = (mark : Option TMark) × (chars : Chars) × (t ≡ One (Lit mark chars)) × (characters chars ≡ cs)

literal_form : (t : Term) (cs : List ℕ) → IsLiteral t cs → term_form (out-Term t) ≡ 0
literal_form t cs (mark, chars, e, f) = one_form t _ 0 e (ap factor_form (out_lit mark chars))

-- a literal stands where it matches
pub literal_stands : (s : List ℕ) (t : Term) (cs : List ℕ) (i j : ℕ) → IsLiteral t cs → Matches s t i j → StandsAt s cs i j
literal_stands s t cs i j (mark, chars, e, f) (inl (tmark, others, x, h)) =
    let same : One (Lit tmark others) ≡ One (Lit mark chars) = sym x ∙ e in
    let held : others ≡ chars = cc same in
    subst (λ xs. StandsAt s xs i j) (ap characters held ∙ f) h
literal_stands s t cs i j (mark, chars, e, f) (inr h) = absurd (cc (h.4, e))

-- the only rule is one line of these literals, and `At n i` holds of the position where the literal n is entered
pub record IsLine (g : Grammar) (s : List ℕ) (terms : List Term) (At : ℕ → ℕ → Type 0) : Type 0 where
  pub only : (a : ℕ) (ts : List Term) → IsOfRule g 0 a ts → ts ≡ terms
  pub literals : (n : ℕ) (t : Term) → slice_get terms n ≡ Some t → (cs : List ℕ) × IsLiteral t cs
  pub start : At 0 0
  pub step : (n k e : ℕ) (t : Term) → At n k → slice_get terms n ≡ Some t → Matches s t k e → At (suc n) e

module _ (g : Grammar) (s : List ℕ) (terms : List Term) (At : ℕ → ℕ → Type 0) (line : IsLine g s terms At) where
  abbrev IsHere : Term → ℕ → Type 0
  IsHere t i = (n : ℕ) × (slice_get terms n ≡ Some t) × At n i

  has_form : (t : Term) (i : ℕ) → IsHere t i → term_form (out-Term t) ≡ 0
  has_form t i (n, e, at) = let l = line.literals n t e in literal_form t l.0 l.1

  no_repetition : (t : Term) (f : Factor) (sep : Option Factor) (i : ℕ) → IsHere t i → IsRepetition t f sep → ⊥
  no_repetition t f sep i h (inl e) = omega (arith, sym (has_form t i h) ∙ ap (λ x. term_form (out-Term x)) e ∙ ap term_form (out_plus f sep))
  no_repetition t f sep i h (inr e) = omega (arith, sym (has_form t i h) ∙ ap (λ x. term_form (out-Term x)) e ∙ ap term_form (out_star f sep))

  -- a literal derives by a text alone, so it matches
  only_text : (t : Term) (k e n : ℕ) → slice_get terms n ≡ Some t → IsDerived g s t k e → Matches s t k e
  only_text t k e n x (text a b, h) = h.2
  only_text t k e n x (d, h) = let l = line.literals n t x in absurd (omega (arith, sym (derived_form g s d t k e h) ∙ literal_form t l.0 l.1))

  mutual
    alternative_is : (ts : List Term) (i : ℕ) → AlternativeEntered g s ts i → (ts ≡ terms) × (i ≡ 0)
    alternative_is _ _ (of_first_rule a ts o) = (line.only a ts o, refl)
    alternative_is _ _ (of_call t i r a ts h c o) = absurd (omega (arith, sym (has_form t i (entered_is t i h)) ∙ one_form t _ 2 c.2 (ap factor_form (out_call c.0 c.1))))
    alternative_is _ _ (of_group t i a ts h o) = absurd (omega (arith, sym (has_form t i (entered_is t i h)) ∙ one_form t _ 3 o.1 (ap factor_form (out_group o.0))))

    place_is : (ts : List Term) (n i : ℕ) → PlaceEntered g s ts n i → (ts ≡ terms) × At n i
    place_is _ _ _ (first_term ts i h) = let x = alternative_is ts i h in (x.0, subst (λ (k : ℕ). At 0 k) (sym x.1) line.start)
    place_is _ _ _ (next_term ts n k e t h x d) =
        let y = place_is ts n k h in
        let z : slice_get terms n ≡ Some t = ap (λ us. slice_get us n) (sym y.0) ∙ x in
        (y.0, line.step n k e t y.1 z (only_text t k e n z d))

    pub entered_is : (t : Term) (i : ℕ) → Entered g s t i → IsHere t i
    entered_is _ _ (at_place ts n i t h x) = let y = place_is ts n i h in (n, ap (λ us. slice_get us n) (sym y.0) ∙ x, y.1)
    entered_is _ _ (of_option t f i h e) = absurd (omega (arith, sym (has_form t i (entered_is t i h)) ∙ ap (λ x. term_form (out-Term x)) e ∙ ap term_form (out_opt f)))
    entered_is _ _ (as_item t f sep i h r) = absurd (item_is t i h)
    entered_is _ _ (as_separator t f p i h r) = absurd (separator_is t i h)

    item_is : (t : Term) (i : ℕ) → ItemEntered g s t i → ⊥
    item_is _ _ (first_item t f sep i h r) = no_repetition t f sep i (entered_is t i h) r
    item_is _ _ (next_item t f k e h r d) = item_is t k h
    item_is _ _ (item_behind t f p k e h r d) = separator_is t k h

    separator_is : (t : Term) (i : ℕ) → SeparatorEntered g s t i → ⊥
    separator_is _ _ (separator_behind t f p k e h r d) = item_is t k h

-- ---- lines of literals

-- the only alternative of a grammar of one term
only_term : (t : Term) (a : ℕ) (ts : List Term) → IsOfRule (of_term t) 0 a ts → ts ≡ t ∷ []
only_term t a ts o = sym (one_alternative (t ∷ []) a ts (of_only_rule (codes "S") (alternative (t ∷ []) ∷ []) a ts o)).1

module _ (cs s : List ℕ) where
  -- one literal is entered at 0
  abbrev AtFront : ℕ → ℕ → Type 0
  AtFront n i = ((n ≡ 0) × (i ≡ 0)) ⊎ (1 ≤ n)

  one_literal_line : IsLine (of_term (quoted cs)) s (quoted cs ∷ []) AtFront
  one_literal_line = record {
    only = only_term (quoted cs);
    literals = literals_are;
    start = inl (refl, refl);
    step = λ n k e t at x m. inr (omega arith);
  }
    where
      literals_are : (n : ℕ) (t : Term) → slice_get (quoted cs ∷ []) n ≡ Some t → (xs : List ℕ) × IsLiteral t xs
      literals_are zero t x = (cs, (None, Quoted cs, sym {b = t} (cc x), refl))
      literals_are (suc n) t x = absurd (cc x)

  pub only_at_front : (t : Term) (i : ℕ) → Entered (of_term (quoted cs)) s t i → (t ≡ quoted cs) × (i ≡ 0)
  only_at_front t i h = by_place (entered_is (of_term (quoted cs)) s (quoted cs ∷ []) AtFront one_literal_line t i h)
    where
      by_place : IsHere (of_term (quoted cs)) s (quoted cs ∷ []) AtFront one_literal_line t i → (t ≡ quoted cs) × (i ≡ 0)
      by_place (zero, x, inl at) = (sym (cc x), at.1)
      by_place (zero, x, inr l) = absurd (omega (arith, l))
      by_place (suc n, x, at) = absurd (cc x)

  -- so what is reached is where it ends
  pub reached_from_front : (j : ℕ) → IsReached (of_term (quoted cs)) s j → StandsAt s cs 0 j
  reached_from_front j (t, i, h, m) =
      let x = only_at_front t i h in
      quoted_stands s cs 0 j (subst (λ u. Matches s u 0 j) x.0 (subst (λ (k : ℕ). Matches s t k j) x.1 m))

-- one literal is entered
pub front_entered : (cs s : List ℕ) → Entered (of_term (quoted cs)) s (quoted cs) 0
front_entered cs s = at_place (quoted cs ∷ []) 0 0 (quoted cs) (first_term _ 0 (of_first_rule 0 _ (_, refl, (_, refl, refl)))) refl

pub none_of_ab : Offset only_ab (codes "ac") 0
none_of_ab = (inr refl, λ j r. absurd (not_there j (reached_from_front (codes "ab") (codes "ac") j r)))
  where
    not_there : (j : ℕ) → StandsAt (codes "ac") (codes "ab") 0 j → ⊥
    not_there j (a, b, e) = omega (arith, ap (λ xs. first (drop 1 xs)) e)

pub one_of_ab : Offset only_a (codes "ab") 1
one_of_ab = (inl (quoted (codes "a"), 0, front_entered (codes "a") (codes "ab"), inl (_, _, refl, (refl, omega arith, refl))), λ j r. omega (arith, (reached_from_front (codes "a") (codes "ab") j r).0))

abbrev pub lines : List Term
lines = quoted (codes "a") ∷ One (Lit None (Code (codes "a"))) ∷ quoted (codes "b") ∷ []

abbrev pub lines_text : List ℕ
lines_text = codes "a\nc"

-- each literal of `lines` has one character
pub line_literals : (n : ℕ) (t : Term) → slice_get lines n ≡ Some t → (c : ℕ) × IsLiteral t (c ∷ [])
line_literals zero t x = (97, (None, Quoted (codes "a"), sym {b = t} (cc x), refl))
line_literals (suc zero) t x = (10, (None, Code (codes "a"), sym {b = t} (cc x), refl))
line_literals (suc (suc zero)) t x = (98, (None, Quoted (codes "b"), sym {b = t} (cc x), refl))
line_literals (suc (suc (suc n))) t x = absurd (cc x)

lines_line : IsLine two_lines lines_text lines (λ (n i : ℕ). n ≡ i)
lines_line = record {
  only = λ a ts o. sym (one_alternative lines a ts (of_only_rule (codes "S") (alternative lines ∷ []) a ts o)).1;
  literals = λ n t x. let l = line_literals n t x in (l.0 ∷ [], l.1);
  start = refl;
  step = λ n k e t at x m. let l = line_literals n t x in omega (arith, at, (literal_stands lines_text t (l.0 ∷ []) k e l.1 m).0);
}

-- the literal at n is entered at n
pub lines_entered : (t : Term) (i : ℕ) → Entered two_lines lines_text t i → slice_get lines i ≡ Some t
lines_entered t i h = let x = entered_is two_lines lines_text lines (λ (n i : ℕ). n ≡ i) lines_line t i h in ap (slice_get lines) (sym x.2) ∙ x.1

second_entered : PlaceEntered two_lines lines_text lines 1 1
second_entered = next_term lines 0 0 1 (quoted (codes "a")) (first_term _ 0 (of_first_rule 0 _ (_, refl, (_, refl, refl)))) refl (text 0 1, (refl, refl, inl (_, _, refl, (refl, omega arith, refl))))

third_entered : PlaceEntered two_lines lines_text lines 2 2
third_entered = next_term lines 1 1 2 (One (Lit None (Code (codes "a")))) second_entered refl (text 1 2, (refl, refl, inl (_, _, refl, (refl, omega arith, refl))))

pub b_entered : Entered two_lines lines_text (quoted (codes "b")) 2
b_entered = at_place lines 2 2 _ third_entered refl

pub two_of_lines : Offset two_lines lines_text 2
two_of_lines = (
  inl (One (Lit None (Code (codes "a"))), 1, at_place lines 1 1 _ second_entered refl, inl (_, _, refl, (refl, omega arith, refl))),
  λ j r. at_most j r.0 r.1 (lines_entered r.0 r.1 r.2) r.3,
)
  where
    at_most : (j : ℕ) (t : Term) (i : ℕ) → slice_get lines i ≡ Some t → Matches lines_text t i j → j ≤ 2
    at_most j t zero x m = omega (arith, (literal_stands lines_text t (codes "a") 0 j (None, Quoted (codes "a"), sym {b = t} (cc x), refl) m).0)
    at_most j t (suc zero) x m = omega (arith, (literal_stands lines_text t (10 ∷ []) 1 j (None, Code (codes "a"), sym {b = t} (cc x), refl) m).0)
    at_most j t (suc (suc zero)) x m = absurd (omega (arith, ap first (literal_stands lines_text t (codes "b") 2 j (None, Quoted (codes "b"), sym {b = t} (cc x), refl) m).2))
    at_most j t (suc (suc (suc i))) x m = absurd (cc x)

-- ---- a repetition with separators

abbrev item : Factor
item = literal (codes "a")

abbrev comma : Factor
comma = literal (codes ",")

abbrev twice : List ℕ
twice = codes "aa"

-- the repetition or its item at 0, or the separator at 1
abbrev IsKnown : Term → ℕ → Type 0
IsKnown t i = ((t ≡ commas) × (i ≡ 0)) ⊎ (((t ≡ One item) × (i ≡ 0)) ⊎ ((t ≡ One comma) × (i ≡ 1)))

known_form : (t : Term) (i : ℕ) → IsKnown t i → (term_form (out-Term t) ≡ 5) ⊎ (term_form (out-Term t) ≡ 0)
known_form t i (inl (e, p)) = inl (ap (λ x. term_form (out-Term x)) e ∙ ap term_form (out_plus item (Some comma)))
known_form t i (inr (inl (e, p))) = inr (one_form t _ 0 e (ap factor_form (out_lit None (Quoted (codes "a")))))
known_form t i (inr (inr (e, p))) = inr (one_form t _ 0 e (ap factor_form (out_lit None (Quoted (codes ",")))))

no_other_form : (t : Term) (i n : ℕ) → IsKnown t i → term_form (out-Term t) ≡ n → 1 ≤ n → n ≤ 4 → ⊥
no_other_form t i n h e low high = by_form (known_form t i h)
  where
    by_form : (term_form (out-Term t) ≡ 5) ⊎ (term_form (out-Term t) ≡ 0) → ⊥
    by_form (inl p) = omega (arith, sym e ∙ p, high)
    by_form (inr p) = omega (arith, sym e ∙ p, low)

-- a repetition that is known is the one that is there
known_repetition : (t : Term) (f : Factor) (sep : Option Factor) (i : ℕ) → IsKnown t i → IsRepetition t f sep → (t ≡ commas) × (i ≡ 0)
known_repetition t f sep i (inl h) r = h
known_repetition t f sep i (inr h) r = absurd (by_form r h)
  where
    by_literal : term_form (out-Term t) ≡ 5 → ((t ≡ One item) × (i ≡ 0)) ⊎ ((t ≡ One comma) × (i ≡ 1)) → ⊥
    by_literal five (inl (q, z)) = omega (arith, sym five ∙ one_form t _ 0 q (ap factor_form (out_lit None (Quoted (codes "a")))))
    by_literal five (inr (q, z)) = omega (arith, sym five ∙ one_form t _ 0 q (ap factor_form (out_lit None (Quoted (codes ",")))))

    by_form : IsRepetition t f sep → ((t ≡ One item) × (i ≡ 0)) ⊎ ((t ≡ One comma) × (i ≡ 1)) → ⊥
    by_form (inl e) = by_literal (ap (λ x. term_form (out-Term x)) e ∙ ap term_form (out_plus f sep))
    by_form (inr e) = by_literal (ap (λ x. term_form (out-Term x)) e ∙ ap term_form (out_star f sep))

-- an item of the repetition is its literal
held_item : (t : Term) (f : Factor) (sep : Option Factor) → t ≡ commas → IsRepetition t f sep → (f ≡ item) × (sep ≡ Some comma)
held_item t f sep e r = same_item t f item sep (Some comma) r (inl e)

-- the text of a factor that is this literal
derived_literal : (f : Factor) (cs : List ℕ) (k e : ℕ) → f ≡ literal cs → IsDerived (of_term commas) twice (One f) k e → StandsAt twice cs k e
derived_literal f cs k e p (d, h) = (quoted_is_text (of_term commas) twice d cs k e (subst (λ x. Derives (of_term commas) twice d (One x) k e) p h)).1

-- no `,` stands behind the first `a`
not_there : (e : ℕ) → StandsAt twice (codes ",") 1 e → ⊥
not_there e (a, b, h) = omega (arith, ap first h)

mutual
  alternative_known : (ts : List Term) (i : ℕ) → AlternativeEntered (of_term commas) twice ts i → (ts ≡ commas ∷ []) × (i ≡ 0)
  alternative_known _ _ (of_first_rule a ts o) = (only_term commas a ts o, refl)
  alternative_known _ _ (of_call t i r a ts h c o) = absurd (no_other_form t i 2 (entered_known t i h) (one_form t _ 2 c.2 (ap factor_form (out_call c.0 c.1))) (omega arith) (omega arith))
  alternative_known _ _ (of_group t i a ts h o) = absurd (no_other_form t i 3 (entered_known t i h) (one_form t _ 3 o.1 (ap factor_form (out_group o.0))) (omega arith) (omega arith))

  place_known : (ts : List Term) (n i : ℕ) → PlaceEntered (of_term commas) twice ts n i → (ts ≡ commas ∷ []) × (((n ≡ 0) × (i ≡ 0)) ⊎ (1 ≤ n))
  place_known _ _ _ (first_term ts i h) = let x = alternative_known ts i h in (x.0, inl (refl, x.1))
  place_known _ _ _ (next_term ts n k e t h x d) = ((place_known ts n k h).0, inr (omega arith))

  pub entered_known : (t : Term) (i : ℕ) → Entered (of_term commas) twice t i → IsKnown t i
  entered_known _ _ (at_place ts n i t h x) = by_place n (place_known ts n i h) x
    where
      by_place : (m : ℕ) → (ts ≡ commas ∷ []) × (((m ≡ 0) × (i ≡ 0)) ⊎ (1 ≤ m)) → slice_get ts m ≡ Some t → IsKnown t i
      by_place zero (e, inl p) y = inl (let z : Some commas ≡ Some t = ap (λ us. slice_get us 0) (sym e) ∙ y in sym (cc z), p.1)
      by_place zero (e, inr p) y = absurd (omega (arith, p))
      by_place (suc m) (e, p) y = absurd (let z : None ≡ Some t = ap (λ us. slice_get us (suc m)) (sym e) ∙ y in cc z)
  entered_known _ _ (of_option t f i h e) = absurd (no_other_form t i 4 (entered_known t i h) (ap (λ x. term_form (out-Term x)) e ∙ ap term_form (out_opt f)) (omega arith) (omega arith))
  entered_known _ _ (as_item t f sep i h r) = let x = item_known t i h in inr (inl (ap One (held_item t f sep x.0 r).0, x.1))
  entered_known _ _ (as_separator t f p i h r) =
      let x = separator_known t i h in
      let y : p ≡ comma = cc (held_item t f (Some p) x.0 r).1 in
      inr (inr (ap One y, x.1))

  item_known : (t : Term) (i : ℕ) → ItemEntered (of_term commas) twice t i → (t ≡ commas) × (i ≡ 0)
  item_known _ _ (first_item t f sep i h r) = known_repetition t f sep i (entered_known t i h) r
  item_known _ _ (next_item t f k e h r d) = absurd (cc (held_item t f None (item_known t k h).0 r).1)
  item_known _ _ (item_behind t f p k e h r d) =
      let x = separator_known t k h in
      let y : p ≡ comma = cc (held_item t f (Some p) x.0 r).1 in
      absurd (not_there e (derived_literal p (codes ",") 1 e y (subst (λ (i : ℕ). IsDerived (of_term commas) twice (One p) i e) x.1 d)))

  separator_known : (t : Term) (i : ℕ) → SeparatorEntered (of_term commas) twice t i → (t ≡ commas) × (i ≡ 1)
  separator_known _ _ (separator_behind t f p k e h r d) =
      let x = item_known t k h in
      let y = derived_literal f (codes "a") 0 e (held_item t f (Some p) x.0 r).0 (subst (λ (i : ℕ). IsDerived (of_term commas) twice (One f) i e) x.1 d) in
      (x.0, omega (arith, y.0))

item_entered : ItemEntered (of_term commas) twice commas 0
item_entered = first_item commas item (Some comma) 0 (at_place (commas ∷ []) 0 0 commas (first_term _ 0 (of_first_rule 0 _ (_, refl, (_, refl, refl)))) refl) (inl refl)

pub one_of_twice : Offset (of_term commas) twice 1
one_of_twice = (
  inl (One item, 0, as_item commas item (Some comma) 0 item_entered (inl refl), inl (_, _, refl, (refl, omega arith, refl))),
  λ j r. at_most j r.0 r.1 (entered_known r.0 r.1 r.2) r.3,
)
  where
    at_most : (j : ℕ) (t : Term) (i : ℕ) → IsKnown t i → Matches twice t i j → j ≤ 1
    at_most j t i (inl (e, p)) m = absurd (omega (arith, sym (matched_form (of_term commas) twice t i j m) ∙ ap (λ x. term_form (out-Term x)) e ∙ ap term_form (out_plus item (Some comma))))
    at_most j t i (inr (inl (e, p))) m = omega (arith, p, (literal_stands twice t (codes "a") i j (None, _, e, refl) m).0)
    at_most j t i (inr (inr (e, p))) m = absurd (not_there j (subst (λ (k : ℕ). StandsAt twice (codes ",") k j) p (literal_stands twice t (codes ",") i j (None, _, e, refl) m)))

-- a known literal `a` is entered at 0 alone
pub not_directly : Entered (of_term commas) twice (One item) 1 → ⊥
not_directly h = by_known (entered_known (One item) 1 h)
  where
    by_known : IsKnown (One item) 1 → ⊥
    by_known (inl (e, p)) = omega (arith, p)
    by_known (inr (inl (e, p))) = omega (arith, p)
    by_known (inr (inr (e, p))) =
        let x : Quoted (codes "a") ≡ Quoted (codes ",") = cc e in
        omega (arith, ap (λ cs. first (characters cs)) x)

-- ---- through options, groups, separators and calls

abbrev chosen : Factor
chosen = Group (alternative (One (deleted (codes "a")) ∷ []) ∷ alternative (quoted (codes "b") ∷ []) ∷ [])

abbrev parts_terms : List Term
parts_terms = Opt chosen ∷ Plus (literal (codes "c")) (Some (deleted (codes ","))) ∷ []

module _ (s : List ℕ) where
  parts_entered : AlternativeEntered parts s parts_terms 0
  parts_entered = of_first_rule 0 _ (_, refl, (_, refl, refl))

  option_entered : Entered parts s (Opt chosen) 0
  option_entered = at_place parts_terms 0 0 _ (first_term _ 0 parts_entered) refl

  second_alternative : AlternativeEntered parts s (quoted (codes "b") ∷ []) 0
  second_alternative = of_group (One chosen) 0 1 _ (of_option _ chosen 0 option_entered refl) (_, refl, (_, refl, refl))

  -- the repetition is entered where the option ends
  repetition_entered : (k : ℕ) → IsDerived parts s (Opt chosen) 0 k → Entered parts s (Plus (literal (codes "c")) (Some (deleted (codes ",")))) k
  repetition_entered k d = at_place parts_terms 1 k _ (next_term parts_terms 0 0 k _ (first_term _ 0 parts_entered) refl d) refl

  item_at : (k : ℕ) → IsDerived parts s (Opt chosen) 0 k → ItemEntered parts s (Plus (literal (codes "c")) (Some (deleted (codes ",")))) k
  item_at k d = first_item _ _ (Some (deleted (codes ","))) k (repetition_entered k d) (inl refl)

pub b_of_parts : Entered parts (codes "bc,c") (quoted (codes "b")) 0
b_of_parts = at_place (quoted (codes "b") ∷ []) 0 0 _ (first_term _ 0 (second_alternative (codes "bc,c"))) refl

option_of_b : IsDerived parts (codes "bc,c") (Opt chosen) 0 1
option_of_b = (present (group 1 (and no_tree (text 0 1))), (chosen, refl, (_, (_, refl, (_, refl, refl)), refl, (0, _, refl, refl, (refl, refl, inl (_, _, refl, (refl, omega arith, refl)))))))

pub first_item_entered : Entered parts (codes "bc,c") (quoted (codes "c")) 1
first_item_entered = as_item _ _ (Some (deleted (codes ","))) 1 (item_at (codes "bc,c") 1 option_of_b) (inl refl)

pub item_without_option : Entered parts (codes "c") (quoted (codes "c")) 0
item_without_option = as_item _ _ (Some (deleted (codes ","))) 0 (item_at (codes "c") 0 (absent, (chosen, refl, refl))) (inl refl)

separator_at : SeparatorEntered parts (codes "bc,c") (Plus (literal (codes "c")) (Some (deleted (codes ",")))) 2
separator_at = separator_behind _ (literal (codes "c")) (deleted (codes ",")) 1 2 (item_at (codes "bc,c") 1 option_of_b) (inl refl) (text 1 2, (refl, refl, inl (_, _, refl, (refl, omega arith, refl))))

pub separator_entered : Entered parts (codes "bc,c") (One (deleted (codes ","))) 2
separator_entered = as_separator _ (literal (codes "c")) (deleted (codes ",")) 2 separator_at (inl refl)

pub item_again : Entered parts (codes "bc,c") (quoted (codes "c")) 3
item_again = as_item _ _ (Some (deleted (codes ","))) 3 (item_behind _ (literal (codes "c")) (deleted (codes ",")) 2 3 separator_at (inl refl) (text 2 3, (refl, refl, inl (_, _, refl, (refl, omega arith, refl))))) (inl refl)

pub a_again : Entered (of_term (Star item None)) twice (quoted (codes "a")) 1
a_again = as_item _ item None 1 (next_item (Star item None) item 0 1 (first_item (Star item None) item None 0 (at_place (Star item None ∷ []) 0 0 _ (first_term _ 0 (of_first_rule 0 _ (_, refl, (_, refl, refl)))) refl) (inr refl)) (inr refl) (text 0 1, (refl, refl, inl (_, _, refl, (refl, omega arith, refl))))) (inr refl)

h_entered : Entered hidden (codes "tv") (marked_call Hidden (codes "h")) 1
h_entered = at_place (quoted (codes "t") ∷ marked_call Hidden (codes "h") ∷ []) 1 1 _ (next_term _ 0 0 1 (quoted (codes "t")) (first_term _ 0 (of_first_rule 0 _ (_, refl, (_, refl, refl)))) refl (text 0 1, (refl, refl, inl (_, _, refl, (refl, omega arith, refl))))) refl

-- where a call is entered, so is the first term of its rule
first_of_called : (t u : Term) (us : List Term) (i r : ℕ) → Entered hidden (codes "tv") t i → Calls hidden t r → IsOfRule hidden r 0 (u ∷ us) → Entered hidden (codes "tv") u i
first_of_called t u us i r h c o = at_place (u ∷ us) 0 i u (first_term _ i (of_call t i r 0 _ h c o)) refl

pub v_of_calls : Entered hidden (codes "tv") (quoted (codes "v")) 1
v_of_calls =
    let g = first_of_called _ (marked_call Hidden (codes "g")) [] 1 1 h_entered (_, _, refl, (_, refl, refl)) (_, refl, (_, refl, refl)) in
    let a = first_of_called _ (marked_call Attribute (codes "a")) [] 1 2 g (_, _, refl, (_, refl, refl)) (_, refl, (_, refl, refl)) in
    first_of_called _ (quoted (codes "v")) [] 1 3 a (_, _, refl, (_, refl, refl)) (_, refl, (_, refl, refl))
