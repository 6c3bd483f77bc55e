-- The first of the things that have a property: it is found, or it is known that nothing has the property.
-- In particular, of trees of bounded height: those of one term, of a sequence and of a repetition, each over one span.
use Rattle.std.proofs.Common.{◌≡◌, sym, subst, ◌⊎◌, ◌+◌, ◌-◌, ◌<◌, ◌≤◌, ℕ, List, arith, Option}
use Rattle.std.proofs.lemmas.Bool.{cases_order}
use mathlib.Core.Logic.{inl, inr}
use Rattle.ix_model.specs.declared.grammar.Grammar.{Grammar}
use Rattle.ix_model.specs.declared.grammar.Term.{Term}
use Rattle.ix_model.specs.declared.grammar.Factor.{Factor}
use Rattle.ix_model.specs.Derivations.Trees.{Tree, Trees, Repeated, tree_count}
use Rattle.ix_model.specs.Derivations.Heights.{height, heights, repeated_height}
use Rattle.ix_model.specs.Derivations.Derives.{Derives, DerivesFirst, Repeats}
use Rattle.ix_model.specs.Derivations.Order.{Before, AllBefore, RepeatedBefore}

-- x has the property, and in the order Q it is before whatever else has it
pub record FirstOf (X : Type 0) (P : X → Type 0) (Q : X → X → Type 0) (x : X) : Type 0 where
  pub holds : P x
  pub before : (y : X) → P y → (y ≡ x) ⊎ Q x y

-- one is first, or none has the property
abbrev pub Found : (X : Type 0) → (X → Type 0) → (X → X → Type 0) → Type 0
Found X P Q = ((x : X) × FirstOf X P Q x) ⊎ ((x : X) → P x → ⊥)

-- the two numbers are the same, or one is less
abbrev pub InSomeOrder : ℕ → ℕ → Type 0
InSomeOrder a b = (a ≡ b) ⊎ ((a < b) ⊎ (b < a))

-- ---- pairs

module _ (X Y : Type 0) (P : X → Type 0) (Q : X → X → Type 0) (R : Y → Type 0) (T : Y → Y → Type 0) where
  -- of two properties, each has a first
  abbrev pub BothFound : Type 0
  BothFound = ((x : X) × FirstOf X P Q x) × ((y : Y) × FirstOf Y R T y)

  -- no two things have the two properties
  abbrev pub NotBoth : Type 0
  NotBoth = (x : X) (y : Y) → P x → R y → ⊥

  pub found_both : Found X P Q → Found Y R T → BothFound ⊎ NotBoth
  found_both (inl x) (inl y) = inl (x, y)
  found_both (inr x) y = inr (λ a b p r. x a p)
  found_both (inl x) (inr y) = inr (λ a b p r. y b r)

-- lists X, trees Y with their widths, and the orders of those that end at one place
module _ (X Y : Type 0) (wide : Y → ℕ) (Q : X → X → ℕ → Type 0) (R : Y → Y → ℕ → Type 0) where
  -- a list and a last tree that end at j are before another list and last tree
  abbrev pub PairBefore : X → Y → X → Y → ℕ → Type 0
  PairBefore ds d es e j = (j - wide d < j - wide e) ⊎ (wide d ≡ wide e) × (Q ds es (j - wide d) ⊎ (ds ≡ es) × R d e j)

  -- they are the same as another list and last tree, or before them, where no other last tree starts sooner
  pub pair_before : (ds es : X) (d e : Y) (k l j : ℕ) → k + wide d ≡ j → l + wide e ≡ j → (l < k → ⊥) → (l ≡ k → (es ≡ ds) ⊎ Q ds es k) → (l ≡ k → (e ≡ d) ⊎ R d e j) →
      ((es ≡ ds) × (e ≡ d)) ⊎ PairBefore ds d es e j
  pair_before ds es d e k l j wd we least p q = by_start (cases_order l k)
    where
      by_start : InSomeOrder l k → ((es ≡ ds) × (e ≡ d)) ⊎ PairBefore ds d es e j
      by_start (inr (inl h)) = absurd (least h)
      by_start (inr (inr h)) = inr (inl (omega (arith, wd, we, h)))
      by_start (inl h) = same (p h) (q h)
        where
          w : wide d ≡ wide e
          w = omega (arith, wd, we, h)

          same : (es ≡ ds) ⊎ Q ds es k → (e ≡ d) ⊎ R d e j → ((es ≡ ds) × (e ≡ d)) ⊎ PairBefore ds d es e j
          same (inl x) (inl y) = inl (x, y)
          same (inl x) (inr y) = inr (inr (w, inr (sym x, y)))
          same (inr x) y = let m : k ≡ j - wide d = omega (arith, wd) in inr (inr (w, inl (subst (λ (n : ℕ). Q ds es n) m x)))

-- ---- trees of height up to b

module _ (g : Grammar) (s : List ℕ) (b : ℕ) where
  -- the tree derives the span from the term
  abbrev pub Within : Term → ℕ → ℕ → Tree → Type 0
  Within t i j d = Derives g s d t i j × (height d ≤ b)

  -- it is the first of these trees
  abbrev pub FirstTree : Term → ℕ → ℕ → Tree → Type 0
  FirstTree t i j d = FirstOf Tree (Within t i j) (λ d e. Before d e j) d

  -- the first is found, or there is none
  abbrev pub FoundTree : Term → ℕ → ℕ → Type 0
  FoundTree t i j = Found Tree (Within t i j) (λ d e. Before d e j)

  -- the trees derive the span from the first n terms
  abbrev pub AllWithin : List Term → ℕ → ℕ → ℕ → Trees → Type 0
  AllWithin terms n i j ds = DerivesFirst g s ds terms i j × (tree_count ds ≡ n) × (heights ds ≤ b)

  -- the first are found, or there are none
  abbrev pub FoundAll : List Term → ℕ → ℕ → ℕ → Type 0
  FoundAll terms n i j = Found Trees (AllWithin terms n i j) (λ ds es. AllBefore ds es j)

  -- the trees derive the span from the repeated factor
  abbrev pub ListWithin : Factor → Option Factor → ℕ → ℕ → Repeated → Type 0
  ListWithin f sep i j ds = Repeats g s ds f sep i j × (repeated_height ds ≤ b)

  -- the first is found, or there is none
  abbrev pub FoundList : Factor → Option Factor → ℕ → ℕ → Type 0
  FoundList f sep i j = Found Repeated (ListWithin f sep i j) (λ ds es. RepeatedBefore ds es j)
