-- Named rules and helpers: how high a node of each is, and when it is before another.
use Rattle.std.proofs.Common.{◌≡◌, refl, ◌⊎◌, ◌+◌, ◌<◌, ℕ}
use Rattle.std.proofs.lemmas.Bool.{cases_order}
use mathlib.Core.Logic.{inl, inr}
use Rattle.ix_model.specs.declared.rules.Kind.{Kind}
use Rattle.ix_model.specs.declared.rules.Kind.TheVariants as kind
use Rattle.ix_model.specs.declared.rules.Rules.{Rules}
use Rattle.ix_model.specs.Expansion.FlatTrees.{FlatTrees, flat_node}
use Rattle.ix_model.specs.Expansion.FlatHeights.{raised, flat_heights}
use Rattle.ix_model.specs.Expansion.FlatOrder.{NodeBefore, FlatBefore, FlatsBefore}
use Rattle.ix_model.specs.Expansion.Numbered.{kind_at}
use Rattle.ix_model.proofs.Decide.{Answered}
use Rattle.ix_tree_laws.proofs.Found.{InSomeOrder}

-- the kind of a helper
abbrev pub Helper : Kind → Type 0
Helper k = k ≡ kind.Named → ⊥

pub is_named : (k : Kind) → Answered (k ≡ kind.Named)
is_named kind.Named = inl refl
is_named kind.Group = inr (λ e. cc e)
is_named kind.Opt = inr (λ e. cc e)
is_named kind.Star = inr (λ e. cc e)
is_named kind.List = inr (λ e. cc e)

pub is_list : (k : Kind) → Answered (k ≡ kind.List)
is_list kind.Named = inr (λ e. cc e)
is_list kind.Group = inr (λ e. cc e)
is_list kind.Opt = inr (λ e. cc e)
is_list kind.Star = inr (λ e. cc e)
is_list kind.List = inl refl

pub raised_helper : (k : Kind) (h : ℕ) → Helper k → raised k h ≡ h
raised_helper kind.Named h q = absurd (q refl)
raised_helper kind.Group h q = refl
raised_helper kind.Opt h q = refl
raised_helper kind.Star h q = refl
raised_helper kind.List h q = refl

pub raised_named : (k : Kind) (h : ℕ) → k ≡ kind.Named → raised k h ≡ h + 1
raised_named k h q = rw q refl

-- of nodes of one kind, by their heights m and n and by what comes behind them
pub helper_before : (k : Kind) (m n : ℕ) (X : Type 0) → Helper k → X → NodeBefore k m n X
helper_before kind.Named m n X q x = absurd (q refl)
helper_before kind.Group m n X q x = x
helper_before kind.Opt m n X q x = x
helper_before kind.Star m n X q x = x
helper_before kind.List m n X q x = x

pub named_before : (k : Kind) (m n : ℕ) (X : Type 0) → k ≡ kind.Named → (m < n) ⊎ (m ≡ n) × X → NodeBefore k m n X
named_before k m n X q x = rw q x

pub from_helper : (k : Kind) (m n : ℕ) (X : Type 0) → Helper k → NodeBefore k m n X → X
from_helper kind.Named m n X q x = absurd (q refl)
from_helper kind.Group m n X q x = x
from_helper kind.Opt m n X q x = x
from_helper kind.Star m n X q x = x
from_helper kind.List m n X q x = x

pub from_named : (k : Kind) (m n : ℕ) (X : Type 0) → k ≡ kind.Named → NodeBefore k m n X → (m < n) ⊎ (m ≡ n) × X
from_named kind.Named m n X q x = x
from_named kind.Group m n X q x = absurd (cc q)
from_named kind.Opt m n X q x = absurd (cc q)
from_named kind.Star m n X q x = absurd (cc q)
from_named kind.List m n X q x = absurd (cc q)

-- ---- nodes of rule r that end at j

module _ (rules : Rules) (r a : ℕ) (ds : FlatTrees) (j : ℕ) where
  -- by alternatives, and then by trees
  abbrev pub AltBefore : ℕ → FlatTrees → Type 0
  AltBefore c es = (a < c) ⊎ (a ≡ c) × FlatsBefore rules ds es j

  -- the least alternative with its first trees is before each node, or the same
  pub first_or_same : (c : ℕ) (es : FlatTrees) → (c < a → ⊥) → (a ≡ c → (es ≡ ds) ⊎ FlatsBefore rules ds es j) → ((a ≡ c) × (es ≡ ds)) ⊎ AltBefore c es
  first_or_same c es least first = by_number (cases_order a c)
    where
      same : a ≡ c → (es ≡ ds) ⊎ FlatsBefore rules ds es j → ((a ≡ c) × (es ≡ ds)) ⊎ AltBefore c es
      same e (inl p) = inl (e, p)
      same e (inr p) = inr (inr (e, p))

      by_number : InSomeOrder a c → ((a ≡ c) × (es ≡ ds)) ⊎ AltBefore c es
      by_number (inl k) = same k (first k)
      by_number (inr (inl k)) = inr (inl k)
      by_number (inr (inr k)) = absurd (least k)

  abbrev pub NodeOrSame : ℕ → FlatTrees → Type 0
  NodeOrSame c es = (flat_node r c es ≡ flat_node r a ds) ⊎ FlatBefore rules (flat_node r a ds) (flat_node r c es) j

  pub helper_or_same : Helper (kind_at rules r) → (c : ℕ) (es : FlatTrees) → ((a ≡ c) × (es ≡ ds)) ⊎ AltBefore c es → NodeOrSame c es
  helper_or_same helper c es (inl (p, q)) = inl (cc (p, q))
  helper_or_same helper c es (inr h) = inr (helper_before (kind_at rules r) (flat_heights rules ds) (flat_heights rules es) (AltBefore c es) helper h)

  -- where the heights are the same
  pub named_or_same : kind_at rules r ≡ kind.Named → (c : ℕ) (es : FlatTrees) → flat_heights rules ds ≡ flat_heights rules es → ((a ≡ c) × (es ≡ ds)) ⊎ AltBefore c es → NodeOrSame c es
  named_or_same named c es n (inl (p, q)) = inl (cc (p, q))
  named_or_same named c es n (inr h) = inr (named_before (kind_at rules r) (flat_heights rules ds) (flat_heights rules es) (AltBefore c es) named (inr (n, h)))

  pub lower_named : kind_at rules r ≡ kind.Named → (c : ℕ) (es : FlatTrees) → flat_heights rules ds < flat_heights rules es → NodeOrSame c es
  lower_named named c es h = inr (named_before (kind_at rules r) (flat_heights rules ds) (flat_heights rules es) (AltBefore c es) named (inl h))
