-- What is entered, by each rule of it, and what is not.
use Rattle.std.proofs.Common.{◌≡◌, refl, ap, sym, subst, ◌⊎◌, ◌≤◌, ℕ, zero, suc, List, [], ◌∷◌, Option, None, Some, slice_get, codes, arith}
use mathlib.Core.Logic.{inl, inr}
use Rattle.ix_model.specs.declared.grammar.Grammar.{Grammar}
use Rattle.ix_model.specs.declared.grammar.Rule.{Rule}
use Rattle.ix_model.specs.declared.grammar.Mark.TheVariants.{Hidden}
use Rattle.ix_model.specs.declared.grammar.Chars.TheVariants.{Quoted, Code}
use Rattle.ix_model.specs.declared.grammar.Term.{Term, One, Opt, Star}
use Rattle.ix_model.specs.declared.grammar.Factor.{Factor}
use Rattle.ix_model.specs.Grammars.Written.{IsOfRule, IsAlternative}
use Rattle.ix_model.specs.Matching.Terminals.{StandsAt, Matches}
use Rattle.ix_model.specs.Matching.Codes.{characters}
use Rattle.ix_model.specs.Derivations.Trees.{text}
use Rattle.ix_model.specs.Derivations.Entered.{IsRepetition, IsDerived, AlternativeEntered, of_first_rule, of_call, of_group, first_term, Entered, at_place, of_option, as_item, as_separator, ItemEntered, first_item, item_behind, SeparatorEntered, separator_behind}
use Rattle.ix_model.specs.Derivations.Offset.{Offset}
use Rattle.ix_examples.specs.SmallGrammars.{alternative, rule, literal, quoted, deleted, call, marked_call, cycle, marks, same_names, of_term, a_or_b, commas}
use Rattle.ix_examples.specs.SmallReadings.{two_lines}
use Rattle.ix_examples.proofs.Inversions.{one_alternative}
use Rattle.ix_examples.proofs.SmallTexts.{first}
use Rattle.ix_worked_examples.proofs.SmallReadings.{IsLiteral, IsLine, entered_is, entered_known, literal_stands, lines, line_literals}

-- ---- alternatives

-- the first term of an alternative is entered where that is
pub first_of : (g : Grammar) (s : List ℕ) (t : Term) (ts : List Term) (i : ℕ) → AlternativeEntered g s (t ∷ ts) i → Entered g s t i
first_of g s t ts i h = at_place (t ∷ ts) 0 i t (first_term (t ∷ ts) i h) refl

-- the term of a grammar of one term is entered at 0
pub of_only_term : (t : Term) (s : List ℕ) → Entered (of_term t) s t 0
of_only_term t s = first_of (of_term t) s t [] 0 (of_first_rule 0 _ (_, refl, (_, refl, refl)))

pub call_entered : Entered cycle (codes "a") (call (codes "S")) 0
call_entered = first_of cycle (codes "a") (call (codes "S")) [] 0 (of_first_rule 0 _ (_, refl, (_, refl, refl)))

pub literal_entered : Entered cycle (codes "a") (quoted (codes "a")) 0
literal_entered = first_of cycle (codes "a") (quoted (codes "a")) [] 0 (of_first_rule 1 _ (_, refl, (_, refl, refl)))

a_call_entered : Entered marks (codes "123") (marked_call Hidden (codes "a")) 0
a_call_entered = first_of marks (codes "123") (marked_call Hidden (codes "a")) _ 0 (of_first_rule 0 _ (_, refl, (_, refl, refl)))

pub earlier_of_called : Entered marks (codes "123") (One (deleted (codes "0"))) 0
earlier_of_called = first_of marks (codes "123") (One (deleted (codes "0"))) [] 0 (of_call _ 0 1 0 _ a_call_entered (_, _, refl, (_, refl, refl)) (_, refl, (_, refl, refl)))

pub later_of_called : Entered marks (codes "123") (quoted (codes "1")) 0
later_of_called = first_of marks (codes "123") (quoted (codes "1")) [] 0 (of_call _ 0 1 1 _ a_call_entered (_, _, refl, (_, refl, refl)) (_, refl, (_, refl, refl)))

pub earlier_of_group : Entered (of_term (One a_or_b)) (codes "b") (quoted (codes "a")) 0
earlier_of_group = first_of _ (codes "b") (quoted (codes "a")) [] 0 (of_group (One a_or_b) 0 0 _ (of_only_term (One a_or_b) (codes "b")) (_, refl, (_, refl, refl)))

pub later_of_group : Entered (of_term (One a_or_b)) (codes "b") (quoted (codes "b")) 0
later_of_group = first_of _ (codes "b") (quoted (codes "b")) [] 0 (of_group (One a_or_b) 0 1 _ (of_only_term (One a_or_b) (codes "b")) (_, refl, (_, refl, refl)))

module _ (s : List ℕ) where
  abbrev OnlyFirst : ℕ → ℕ → Type 0
  OnlyFirst n i = Unit {0}

  only_a_line : IsLine same_names s (quoted (codes "a") ∷ []) OnlyFirst
  only_a_line = record {
    only = only_of_first;
    literals = literals_are;
    start = tt;
    step = λ n k e t at x m. tt;
  }
    where
      only_of_first : (n : ℕ) (ts : List Term) → IsOfRule same_names 0 n ts → ts ≡ quoted (codes "a") ∷ []
      only_of_first n ts (x, at, o) =
          let e : x ≡ rule (codes "S") (alternative (quoted (codes "a") ∷ []) ∷ []) = cc at in
          sym (one_alternative (quoted (codes "a") ∷ []) n ts (subst (λ (y : Rule). IsAlternative y.alts n ts) e o)).1

      literals_are : (n : ℕ) (t : Term) → slice_get (quoted (codes "a") ∷ []) n ≡ Some t → (cs : List ℕ) × IsLiteral t cs
      literals_are zero t x = (codes "a", (None, Quoted (codes "a"), sym {b = t} (cc x), refl))
      literals_are (suc n) t x = absurd (cc x)

  -- nothing of the second rule is entered, since it is not called
  pub not_called : (i : ℕ) → Entered same_names s (quoted (codes "b")) i → ⊥
  not_called i h = by_place (entered_is same_names s (quoted (codes "a") ∷ []) OnlyFirst only_a_line (quoted (codes "b")) i h)
    where
      by_place : (n : ℕ) × (slice_get (quoted (codes "a") ∷ []) n ≡ Some (quoted (codes "b"))) × OnlyFirst n i → ⊥
      by_place (zero, x, at) =
          let e : Quoted (codes "a") ≡ Quoted (codes "b") = cc x in
          omega (arith, ap (λ cs. first (characters cs)) e)
      by_place (suc n, x, at) = cc x

-- ---- options and repetitions

pub of_an_option : Entered (of_term (Opt (literal (codes "a")))) (codes "b") (quoted (codes "a")) 0
of_an_option = of_option (Opt (literal (codes "a"))) (literal (codes "a")) 0 (of_only_term _ (codes "b")) refl

module _ (t : Term) (s : List ℕ) (f : Factor) (sep : Option Factor) (r : IsRepetition t f sep) where
  item_at_start : ItemEntered (of_term t) s t 0
  item_at_start = first_item t f sep 0 (of_only_term t s) r

  -- the item of a repetition is entered at 0, where that is the only term
  pub only_item : Entered (of_term t) s (One f) 0
  only_item = as_item t f sep 0 item_at_start r

module _ (t : Term) (s : List ℕ) (f p : Factor) (r : IsRepetition t f (Some p)) (e : ℕ) (d : IsDerived (of_term t) s (One f) 0 e) where
  separator_there : SeparatorEntered (of_term t) s t e
  separator_there = separator_behind t f p 0 e (item_at_start t s f (Some p) r) r d

  -- and its separator where an item from 0 ends
  pub only_separator : Entered (of_term t) s (One p) e
  only_separator = as_separator t f p e separator_there r

a_derived : (g : Grammar) (s : List ℕ) (i j : ℕ) → StandsAt s (codes "a") i j → IsDerived g s (quoted (codes "a")) i j
a_derived g s i j h = (text i j, (refl, refl, inl (_, _, refl, h)))

pub comma_entered : Entered (of_term commas) (codes "aa") (quoted (codes ",")) 1
comma_entered = only_separator commas (codes "aa") (literal (codes "a")) (literal (codes ",")) (inl refl) 1 (a_derived (of_term commas) (codes "aa") 0 1 (refl, omega arith, refl))

pub comma_of_star : Entered (of_term (Star (literal (codes "a")) (Some (literal (codes ","))))) (codes "aa") (quoted (codes ",")) 1
comma_of_star = only_separator (Star (literal (codes "a")) (Some (literal (codes ",")))) (codes "aa") (literal (codes "a")) (literal (codes ",")) (inr refl) 1 (a_derived (of_term (Star (literal (codes "a")) (Some (literal (codes ","))))) (codes "aa") 0 1 (refl, omega arith, refl))

pub behind_comma : Entered (of_term commas) (codes "a,") (quoted (codes "a")) 2
behind_comma =
    let there = separator_there commas (codes "a,") (literal (codes "a")) (literal (codes ",")) (inl refl) 1 (a_derived (of_term commas) (codes "a,") 0 1 (refl, omega arith, refl)) in
    as_item commas (literal (codes "a")) (Some (literal (codes ","))) 2 (item_behind commas (literal (codes "a")) (literal (codes ",")) 1 2 there (inl refl) (text 1 2, (refl, refl, inl (_, _, refl, (refl, omega arith, refl))))) (inl refl)

-- where the repetition is entered, its separator is not
pub not_at_start : Entered (of_term commas) (codes "aa") (quoted (codes ",")) 0 → ⊥
not_at_start h = by_known (entered_known (quoted (codes ",")) 0 h)
  where
    by_known : ((quoted (codes ",") ≡ commas) × ◌≡◌ {A = ℕ} 0 0) ⊎ (((quoted (codes ",") ≡ quoted (codes "a")) × ◌≡◌ {A = ℕ} 0 0) ⊎ ((quoted (codes ",") ≡ quoted (codes ",")) × ◌≡◌ {A = ℕ} 0 1)) → ⊥
    by_known (inl (e, z)) = cc e
    by_known (inr (inl (e, z))) =
        let x : Quoted (codes ",") ≡ Quoted (codes "a") = cc e in
        omega (arith, ap (λ cs. first (characters cs)) x)
    by_known (inr (inr (e, z))) = omega (arith, z)

-- ---- a line of literals whose second one doesn't match

abbrev ac : List ℕ
ac = codes "ac"

abbrev NotLast : ℕ → ℕ → Type 0
NotLast n i = (n ≡ i) × (n ≤ 1)

-- no line feed stands behind the `a`
no_line_feed : (t : Term) (j : ℕ) → slice_get lines 1 ≡ Some t → Matches ac t 1 j → ⊥
no_line_feed t j x m = omega (arith, ap first (literal_stands ac t (10 ∷ []) 1 j (None, Code (codes "a"), sym {b = t} (cc x), refl) m).2)

ends_behind_a : (t : Term) (j : ℕ) → slice_get lines 0 ≡ Some t → Matches ac t 0 j → 1 ≡ j
ends_behind_a t j x m = omega (arith, (literal_stands ac t (codes "a") 0 j (None, Quoted (codes "a"), sym {b = t} (cc x), refl) m).0)

broken_line : IsLine two_lines ac lines NotLast
broken_line = record {
  only = only_of_first;
  literals = λ n t x. let l = line_literals n t x in (l.0 ∷ [], l.1);
  start = (refl, omega arith);
  step = steps;
}
  where
    only_of_first : (n : ℕ) (ts : List Term) → IsOfRule two_lines 0 n ts → ts ≡ lines
    only_of_first n ts (x, at, o) =
        let e : x ≡ rule (codes "S") (alternative lines ∷ []) = cc at in
        sym (one_alternative lines n ts (subst (λ (y : Rule). IsAlternative y.alts n ts) e o)).1

    steps : (n k e : ℕ) (t : Term) → NotLast n k → slice_get lines n ≡ Some t → Matches ac t k e → NotLast (suc n) e
    steps zero k e t at x m = let w : k ≡ 0 = omega (arith, at.0) in (ends_behind_a t e x (subst (λ (i : ℕ). Matches ac t i e) w m), omega arith)
    steps (suc zero) k e t at x m = let w : k ≡ 1 = omega (arith, at.0) in absurd (no_line_feed t e x (subst (λ (i : ℕ). Matches ac t i e) w m))
    steps (suc (suc n)) k e t at x m = absurd (omega (arith, at.1))

abbrev IsBefore : Term → ℕ → Type 0
IsBefore t i = (n : ℕ) × (slice_get lines n ≡ Some t) × NotLast n i

pub not_behind : (i : ℕ) → Entered two_lines ac (quoted (codes "b")) i → ⊥
not_behind i h = by_place (entered_is two_lines ac lines NotLast broken_line (quoted (codes "b")) i h)
  where
    by_place : IsBefore (quoted (codes "b")) i → ⊥
    by_place (zero, x, at) =
        let e : Quoted (codes "a") ≡ Quoted (codes "b") = cc x in
        omega (arith, ap (λ cs. first (characters cs)) e)
    by_place (suc zero, x, at) =
        let e : Code (codes "a") ≡ Quoted (codes "b") = cc x in
        cc e
    by_place (suc (suc n), x, at) = omega (arith, at.1)

pub reads_one : Offset two_lines ac 1
reads_one = (
  inl (quoted (codes "a"), 0, first_of two_lines ac (quoted (codes "a")) _ 0 (of_first_rule 0 _ (_, refl, (_, refl, refl))), inl (_, _, refl, (refl, omega arith, refl))),
  λ j r. at_most j r.0 r.1 (entered_is two_lines ac lines NotLast broken_line r.0 r.1 r.2) r.3,
)
  where
    at_most : (j : ℕ) (t : Term) (i : ℕ) → IsBefore t i → Matches ac t i j → j ≤ 1
    at_most j t i (zero, x, at) m = let w : i ≡ 0 = omega (arith, at.0) in omega (arith, ends_behind_a t j x (subst (λ (k : ℕ). Matches ac t k j) w m))
    at_most j t i (suc zero, x, at) m = let w : i ≡ 1 = omega (arith, at.0) in absurd (no_line_feed t j x (subst (λ (k : ℕ). Matches ac t k j) w m))
    at_most j t i (suc (suc n), x, at) m = absurd (omega (arith, at.1))
