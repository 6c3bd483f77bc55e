-- Under a grammar of one insertion the insertion alone is entered, and so nothing is reached.
use Rattle.std.proofs.Common.{◌≡◌, ap, sym, ◌∙◌, ℕ, zero, suc, List, [], ◌∷◌, Option, Some, slice_get, codes}
use mathlib.Core.Logic.{inl, inr}
use Rattle.ix_model.specs.declared.grammar.Term.{Term}
use Rattle.ix_model.specs.declared.grammar.Factor.{Factor}
use Rattle.ix_model.specs.Grammars.Written.{IsOfRule}
use Rattle.ix_model.specs.Derivations.Entered.{IsRepetition, AlternativeEntered, of_first_rule, of_call, of_group, PlaceEntered, first_term, next_term, Entered, at_place, of_option, as_item, as_separator, ItemEntered, first_item, next_item, item_behind, SeparatorEntered, separator_behind}
use Rattle.ix_model.specs.Derivations.Offset.{IsReached}
use Rattle.ix_model.specs.Matching.Terminals.{Matches}
use Rattle.ix_examples.specs.SmallGrammars.{alternative, inserted, of_term}
use Rattle.ix_examples.proofs.Inversions.{one_alternative, of_only_rule}

-- +"x"
abbrev x : Term
x = inserted (codes "x")

only_alternative : (a : ℕ) (ts : List Term) → IsOfRule (of_term x) 0 a ts → ts ≡ x ∷ []
only_alternative a ts o = sym (one_alternative (x ∷ []) a ts (of_only_rule (codes "S") (alternative (x ∷ []) ∷ []) a ts o)).1

no_repetition : (t : Term) (f : Factor) (sep : Option Factor) → t ≡ x → IsRepetition t f sep → ⊥
no_repetition t f sep e (inl h) = cc (e, h)
no_repetition t f sep e (inr h) = cc (e, h)

module _ (s : List ℕ) where
  mutual
    alternative_is : (ts : List Term) (i : ℕ) → AlternativeEntered (of_term x) s ts i → ts ≡ x ∷ []
    alternative_is _ _ (of_first_rule a ts o) = only_alternative a ts o
    alternative_is _ _ (of_call t i r a ts h c o) = absurd (cc (entered_is t i h, c.2))
    alternative_is _ _ (of_group t i a ts h o) = absurd (cc (entered_is t i h, o.1))

    place_is : (ts : List Term) (n i : ℕ) → PlaceEntered (of_term x) s ts n i → ts ≡ x ∷ []
    place_is _ _ _ (first_term ts i h) = alternative_is ts i h
    place_is _ _ _ (next_term ts n k e t h y d) = place_is ts n k h

    entered_is : (t : Term) (i : ℕ) → Entered (of_term x) s t i → t ≡ x
    entered_is _ _ (at_place ts n i t h y) = by_place n (ap (λ us. slice_get us n) (sym (place_is ts n i h)) ∙ y)
      where
        by_place : (m : ℕ) → slice_get (x ∷ []) m ≡ Some t → t ≡ x
        by_place zero e = sym (cc e)
        by_place (suc m) e = absurd (cc e)
    entered_is _ _ (of_option t f i h e) = absurd (cc (entered_is t i h, e))
    entered_is _ _ (as_item t f sep i h r) = absurd (no_item t i h)
    entered_is _ _ (as_separator t f p i h r) = absurd (no_separator t i h)

    no_item : (t : Term) (i : ℕ) → ItemEntered (of_term x) s t i → ⊥
    no_item _ _ (first_item t f sep i h r) = no_repetition t f sep (entered_is t i h) r
    no_item _ _ (next_item t f k e h r d) = no_item t k h
    no_item _ _ (item_behind t f p k e h r d) = no_separator t k h

    no_separator : (t : Term) (i : ℕ) → SeparatorEntered (of_term x) s t i → ⊥
    no_separator _ _ (separator_behind t f p k e h r d) = no_item t k h

  pub nothing_reached : (j : ℕ) → IsReached (of_term x) s j → ⊥
  nothing_reached j (t, i, h, m) = no_match (entered_is t i h) m
    where
      no_match : t ≡ x → Matches s t i j → ⊥
      no_match e (inl k) = cc (e, k.2)
      no_match e (inr k) = cc (e, k.4)
