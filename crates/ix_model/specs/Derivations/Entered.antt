-- Where a reading from the left comes to: which alternatives and terms may begin at which position, whatever follows them in the text.
-- An alternative is its terms and a term is its value, so two places of a grammar where the same is written are one here. That changes
-- no position that is come to, since the rules ask only what is written at a place. An item or a separator of a repetition, and what an
-- option holds, is the term that is this factor alone.
-- Source: this project's own.
use Rattle.std.specs.Prelude.{◌≡◌, ◌⊎◌, ℕ, zero, suc, List, Option, Some, None, slice_get}
use Rattle.ix_model.specs.declared.grammar.Grammar.{Grammar}
use Rattle.ix_model.specs.declared.grammar.Term.{Term, One, Opt, Star, Plus}
use Rattle.ix_model.specs.declared.grammar.Factor.{Factor}
use Rattle.ix_model.specs.Grammars.Written.{IsOfRule}
use Rattle.ix_model.specs.Derivations.Trees.{Tree}
use Rattle.ix_model.specs.Derivations.Derives.{Calls, IsGroup, Derives}

-- the term is a repetition of this item, with this separator or none
abbrev pub IsRepetition : Term → Factor → Option Factor → Type 0
IsRepetition t f sep = (t ≡ Plus f sep) ⊎ (t ≡ Star f sep)

module _ (g : Grammar) (s : List ℕ) where
  -- some tree derives the characters from k to e from the term
  abbrev pub IsDerived : Term → ℕ → ℕ → Type 0
  IsDerived t k e = (d : Tree) × Derives g s d t k e

  mutual
    -- the alternative with these terms is entered at i: it is of the first rule, at 0, or of the rule or group that a term entered at i calls or is
    pub data AlternativeEntered : List Term → ℕ → Type 0 where
      of_first_rule : (a : ℕ) (terms : List Term) → IsOfRule g 0 a terms → AlternativeEntered terms 0
      of_call : (t : Term) (i r a : ℕ) (terms : List Term) → Entered t i → Calls g t r → IsOfRule g r a terms → AlternativeEntered terms i
      of_group : (t : Term) (i a : ℕ) (terms : List Term) → Entered t i → IsGroup t a terms → AlternativeEntered terms i

    -- term n of the alternative with these terms is entered at i: it is the first, where the alternative is, or the term before it ends there
    pub data PlaceEntered : List Term → ℕ → ℕ → Type 0 where
      first_term : (terms : List Term) (i : ℕ) → AlternativeEntered terms i → PlaceEntered terms zero i
      next_term : (terms : List Term) (n k e : ℕ) (t : Term) → PlaceEntered terms n k → slice_get terms n ≡ Some t → IsDerived t k e → PlaceEntered terms (suc n) e

    -- the term is entered at i: as a term of an alternative, as what an option holds, as an item or as a separator
    pub data Entered : Term → ℕ → Type 0 where
      at_place : (terms : List Term) (n i : ℕ) (t : Term) → PlaceEntered terms n i → slice_get terms n ≡ Some t → Entered t i
      of_option : (t : Term) (f : Factor) (i : ℕ) → Entered t i → t ≡ Opt f → Entered (One f) i
      as_item : (t : Term) (f : Factor) (sep : Option Factor) (i : ℕ) → ItemEntered t i → IsRepetition t f sep → Entered (One f) i
      as_separator : (t : Term) (f p : Factor) (i : ℕ) → SeparatorEntered t i → IsRepetition t f (Some p) → Entered (One p) i

    -- the item of this repetition is entered at i: where the repetition is, behind an item where there is no separator, or behind a separator
    pub data ItemEntered : Term → ℕ → Type 0 where
      first_item : (t : Term) (f : Factor) (sep : Option Factor) (i : ℕ) → Entered t i → IsRepetition t f sep → ItemEntered t i
      next_item : (t : Term) (f : Factor) (k e : ℕ) → ItemEntered t k → IsRepetition t f None → IsDerived (One f) k e → ItemEntered t e
      item_behind : (t : Term) (f p : Factor) (k e : ℕ) → SeparatorEntered t k → IsRepetition t f (Some p) → IsDerived (One p) k e → ItemEntered t e

    -- the separator of this repetition is entered at i: behind an item
    pub data SeparatorEntered : Term → ℕ → Type 0 where
      separator_behind : (t : Term) (f p : Factor) (k e : ℕ) → ItemEntered t k → IsRepetition t f (Some p) → IsDerived (One f) k e → SeparatorEntered t e
