-- Which trees derive a span of a text from a term: the least relation with one case for each form of term.
-- A tree is finite, so the recursion on it is that least relation. A factor is the term that is this factor alone.
-- Source: Invisible XML 1.0, "Grammar" (the meaning of rules, alternatives, terms and factors).
use Rattle.std.specs.Prelude.{◌≡◌, ◌≢◌, ◌⊎◌, ℕ, List, length, Option, Some, None, slice_get}
use Rattle.ix_model.specs.declared.grammar.Grammar.{Grammar}
use Rattle.ix_model.specs.declared.grammar.Mark.{Mark}
use Rattle.ix_model.specs.declared.grammar.Alt.{Alt}
use Rattle.ix_model.specs.declared.grammar.Term.{Term, One, Opt, Star, Plus}
use Rattle.ix_model.specs.declared.grammar.Factor.{Factor, Call, Group}
use Rattle.ix_model.specs.Grammars.Written.{IsNamed, IsAlternative, IsOfRule}
use Rattle.ix_model.specs.Matching.Terminals.{Matches, IsInsertion}
use Rattle.ix_model.specs.Derivations.Trees.{Tree, text, insertion, node, group, present, absent, no_item, list, Trees, no_tree, and, Repeated, one, again, again_after, tree_count}

-- the term calls rule r
abbrev pub Calls : Grammar → Term → ℕ → Type 0
Calls g t r = (mark : Option Mark) × (name : List ℕ) × t ≡ One (Call mark name) × IsNamed g r name

-- the term is a group, and these are the terms of its alternative a
abbrev pub IsGroup : Term → ℕ → List Term → Type 0
IsGroup t a terms = (alts : List Alt) × t ≡ One (Group alts) × IsAlternative alts a terms

module _ (g : Grammar) (s : List ℕ) where
  abbrev mutual
    -- the tree derives the characters from i to j from the term
    pub Derives : Tree → Term → ℕ → ℕ → Type 0
    Derives (text a b) t i j = (a ≡ i) × (b ≡ j) × Matches s t i j
    Derives insertion t i j = (i ≡ j) × IsInsertion t
    Derives (node r a ds) t i j = Calls g t r × (terms : List Term) × IsOfRule g r a terms × (tree_count ds ≡ length terms) × DerivesFirst ds terms i j
    Derives (group a ds) t i j = (terms : List Term) × IsGroup t a terms × (tree_count ds ≡ length terms) × DerivesFirst ds terms i j
    Derives (present d) t i j = (f : Factor) × (t ≡ Opt f) × Derives d (One f) i j
    Derives absent t i j = (f : Factor) × (t ≡ Opt f) × (i ≡ j)
    Derives no_item t i j = (f : Factor) × (sep : Option Factor) × (t ≡ Star f sep) × (i ≡ j)
    Derives (list ds) t i j = (f : Factor) × (sep : Option Factor) × ((t ≡ Plus f sep) ⊎ (t ≡ Star f sep)) × Repeats ds f sep i j

    -- one tree for each of the first terms, over adjoining spans from i to j
    pub DerivesFirst : Trees → List Term → ℕ → ℕ → Type 0
    DerivesFirst no_tree terms i j = i ≡ j
    DerivesFirst (and ds d) terms i j = (k : ℕ) × (t : Term) × DerivesFirst ds terms i k × (slice_get terms (tree_count ds) ≡ Some t) × Derives d t k j

    -- items, with separators between them where there is one, over adjoining spans from i to j
    pub Repeats : Repeated → Factor → Option Factor → ℕ → ℕ → Type 0
    Repeats (one d) f sep i j = Derives d (One f) i j
    Repeats (again ds d) f sep i j = (sep ≡ None) × (k : ℕ) × Repeats ds f sep i k × Derives d (One f) k j
    Repeats (again_after ds e d) f sep i j =
        (p : Factor) × (sep ≡ Some p) × (k : ℕ) × (l : ℕ) × Repeats ds f sep i k × Derives e (One p) k l × Derives d (One f) l j

  -- one tree for each of the terms, over adjoining spans from i to j
  abbrev pub DerivesAll : Trees → List Term → ℕ → ℕ → Type 0
  DerivesAll ds terms i j = (tree_count ds ≡ length terms) × DerivesFirst ds terms i j

  -- the tree is a derivation of the whole text: of an alternative of the first rule
  abbrev pub IsDerivation : Tree → Type 0
  IsDerivation d = (a : ℕ) × (terms : List Term) × (ds : Trees) × (d ≡ node 0 a ds) × IsOfRule g 0 a terms × DerivesAll ds terms 0 (length s)

  -- two different trees are derivations of the text
  abbrev pub Ambiguous : Type 0
  Ambiguous = (d : Tree) × (e : Tree) × IsDerivation d × IsDerivation e × (d ≢ e)
