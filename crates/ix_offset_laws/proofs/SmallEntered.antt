-- What is entered in small grammars, by the rules that need more than one alternative, term or item; and what is reached by nothing.
use Rattle.std.proofs.Common.{refl, arith, ℕ, List, [], ◌∷◌, Some, None, codes}
use mathlib.Core.Logic.{inl, inr}
use Rattle.ix_model.specs.declared.grammar.Grammar.{Grammar}
use Rattle.ix_model.specs.declared.grammar.Term.{Term, One, Opt}
use Rattle.ix_model.specs.declared.grammar.Factor.{Factor}
use Rattle.ix_model.specs.Matching.Terminals.{StandsAt}
use Rattle.ix_model.specs.Derivations.Trees.{text}
use Rattle.ix_model.specs.Derivations.Entered.{IsDerived, AlternativeEntered, of_first_rule, of_call, of_group, first_term, next_term, Entered, at_place, of_option, as_item, first_item, next_item, item_behind, SeparatorEntered, separator_behind}
use Rattle.ix_model.specs.Derivations.Offset.{IsReached}
use Rattle.ix_examples.specs.SmallGrammars.{literal, quoted, inserted, call, of_term, of_terms, a_or_b}
use Rattle.ix_examples.specs.SmallRules.{a_list}
use Rattle.ix_offset_laws.specs.Examples.{a_plus, either, two_of_a_name}

-- the first term of an alternative is entered where that is
first_of : (g : Grammar) (s : List ℕ) (t : Term) (ts : List Term) (i : ℕ) → AlternativeEntered g s (t ∷ ts) i → Entered g s t i
first_of g s t ts i h = at_place (t ∷ ts) 0 i t (first_term (t ∷ ts) i h) refl

-- the term of a grammar of one term is entered at 0
only_term : (t : Term) (s : List ℕ) → Entered (of_term t) s t 0
only_term t s = first_of (of_term t) s t [] 0 (of_first_rule 0 _ (_, refl, (_, refl, refl)))

pub insertion_entered : Entered (of_term (inserted (codes "x"))) [] (inserted (codes "x")) 0
insertion_entered = only_term (inserted (codes "x")) []

pub empty_reached : IsReached (of_term (quoted [])) [] 0
empty_reached = (quoted [], 0, only_term (quoted []) [], inl (_, _, refl, (refl, omega arith, refl)))

module _ (s : List ℕ) where
  call_entered : Entered two_of_a_name s (call (codes "A")) 0
  call_entered = first_of two_of_a_name s (call (codes "A")) [] 0 (of_first_rule 0 _ (_, refl, (_, refl, refl)))

  pub of_earlier : Entered two_of_a_name s (quoted (codes "a")) 0
  of_earlier = first_of two_of_a_name s (quoted (codes "a")) [] 0 (of_call _ 0 1 0 _ call_entered (_, _, refl, (_, refl, refl)) (_, refl, (_, refl, refl)))

  pub of_later : Entered two_of_a_name s (quoted (codes "b")) 0
  of_later = first_of two_of_a_name s (quoted (codes "b")) [] 0 (of_call _ 0 2 0 _ call_entered (_, _, refl, (_, refl, refl)) (_, refl, (_, refl, refl)))

-- ---- behind the front of a text

-- a literal derives where it stands
derived_of : (g : Grammar) (s cs : List ℕ) (i j : ℕ) → StandsAt s cs i j → IsDerived g s (quoted cs) i j
derived_of g s cs i j h = (text i j, (refl, refl, inl (_, _, refl, h)))

pub later_alternative : Entered either (codes "b") (quoted (codes "b")) 0
later_alternative = first_of either (codes "b") (quoted (codes "b")) [] 0 (of_first_rule 1 _ (_, refl, (_, refl, refl)))

-- the second of two terms is entered where the first one ends
second_term : (t : Term) (s : List ℕ) → StandsAt s (codes "c") 0 1 → Entered (of_terms (quoted (codes "c")) t) s t 1
second_term t s h = at_place _ 1 1 t (next_term _ 0 0 1 (quoted (codes "c")) (first_term _ 0 (of_first_rule 0 _ (_, refl, (_, refl, refl)))) refl (derived_of (of_terms (quoted (codes "c")) t) s (codes "c") 0 1 h)) refl

pub later_group : Entered (of_terms (quoted (codes "c")) (One a_or_b)) (codes "ca") (quoted (codes "a")) 1
later_group = first_of _ (codes "ca") (quoted (codes "a")) [] 1 (of_group (One a_or_b) 1 0 _ (second_term (One a_or_b) (codes "ca") (refl, omega arith, refl)) (_, refl, (_, refl, refl)))

pub later_option : Entered (of_terms (quoted (codes "c")) (Opt (literal (codes "a")))) (codes "c") (quoted (codes "a")) 1
later_option = of_option _ (literal (codes "a")) 1 (second_term (Opt (literal (codes "a"))) (codes "c") (refl, omega arith, refl)) refl

-- ---- items

abbrev a : Factor
a = literal (codes "a")

abbrev comma : Factor
comma = literal (codes ",")

pub next_of_plus : Entered (of_term a_plus) (codes "aa") (quoted (codes "a")) 1
next_of_plus = as_item a_plus a None 1 (next_item a_plus a 0 1 (first_item a_plus a None 0 (only_term a_plus (codes "aa")) (inl refl)) (inl refl) (derived_of (of_term a_plus) (codes "aa") (codes "a") 0 1 (refl, omega arith, refl))) (inl refl)

separator_there : SeparatorEntered (of_term a_list) (codes "a,") a_list 1
separator_there = separator_behind a_list a comma 0 1 (first_item a_list a (Some comma) 0 (only_term a_list (codes "a,")) (inr refl)) (inr refl) (derived_of (of_term a_list) (codes "a,") (codes "a") 0 1 (refl, omega arith, refl))

pub behind_separator : Entered (of_term a_list) (codes "a,") (quoted (codes "a")) 2
behind_separator = as_item a_list a (Some comma) 2 (item_behind a_list a comma 1 2 separator_there (inr refl) (derived_of (of_term a_list) (codes "a,") (codes ",") 1 2 (refl, omega arith, refl))) (inr refl)
