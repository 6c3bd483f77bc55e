-- A tree is as wide as the span that it derives.
use Rattle.std.proofs.Common.{◌≡◌, ◌+◌, ◌≤◌, ℕ, List, Option, arith}
use mathlib.Core.Logic.{inl, inr}
use Rattle.ix_model.specs.declared.grammar.Grammar.{Grammar}
use Rattle.ix_model.specs.declared.grammar.Term.{Term, One}
use Rattle.ix_model.specs.declared.grammar.Factor.{Factor}
use Rattle.ix_model.specs.Derivations.Trees.{Tree, text, insertion, node, group, present, absent, no_item, list, Trees, no_tree, and, Repeated, one, again, again_after, width, widths, repeated_width}
use Rattle.ix_model.specs.Derivations.Derives.{Derives, DerivesFirst, Repeats}
use Rattle.ix_model.specs.Matching.Terminals.{Matches}

module _ (g : Grammar) (s : List ℕ) where
  matches_forward : (t : Term) (i j : ℕ) → Matches s t i j → i ≤ j
  matches_forward t i j (inl h) = omega (arith, h.3.0)
  matches_forward t i j (inr h) = omega (arith, h.6.0)

  mutual
    -- a tree is as wide as what it derives
    pub derived_width : (d : Tree) (t : Term) (i j : ℕ) → Derives g s d t i j → i + width d ≡ j
    derived_width (text a b) t i j h = omega (arith, h.0, h.1, matches_forward t i j h.2)
    derived_width insertion t i j h = omega (arith, h.0)
    derived_width (node r a ds) t i j h = first_width ds h.1 i j h.4
    derived_width (group a ds) t i j h = first_width ds h.0 i j h.3
    derived_width (present d) t i j h = derived_width d (One h.0) i j h.2
    derived_width absent t i j h = omega (arith, h.2)
    derived_width no_item t i j h = omega (arith, h.3)
    derived_width (list ds) t i j h = repeated_width_is ds h.0 h.1 i j h.3

    pub first_width : (ds : Trees) (terms : List Term) (i j : ℕ) → DerivesFirst g s ds terms i j → i + widths ds ≡ j
    first_width no_tree terms i j h = omega (arith, h)
    first_width (and ds d) terms i j h = omega (arith, first_width ds terms i h.0 h.2, derived_width d h.1 h.0 j h.4)

    pub repeated_width_is : (ds : Repeated) (f : Factor) (sep : Option Factor) (i j : ℕ) → Repeats g s ds f sep i j → i + repeated_width ds ≡ j
    repeated_width_is (one d) f sep i j h = derived_width d (One f) i j h
    repeated_width_is (again ds d) f sep i j h = omega (arith, repeated_width_is ds f sep i h.1 h.2, derived_width d (One f) h.1 j h.3)
    repeated_width_is (again_after ds e d) f sep i j h =
        omega (arith, repeated_width_is ds f sep i h.2 h.4, derived_width e (One h.0) h.2 h.3 h.5, derived_width d (One f) h.3 j h.6)
