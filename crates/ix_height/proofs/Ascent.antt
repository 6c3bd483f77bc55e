-- A way over spans that have trees gives a tree.
use Rattle.std.proofs.Common.{◌≡◌, refl, ap, sym, subst, ◌∙◌, ◌<◌, ℕ, max, Bool, false, List, length, Option, Some, None, arith, get_or}
use mathlib.Core.Logic.{inl, inr}
use Rattle.ix_model.specs.declared.rules.Sym.{Sym}
use Rattle.ix_model.specs.declared.rules.Sym.TheVariants as sy
use Rattle.ix_model.specs.declared.rules.Kind.{Kind}
use Rattle.ix_model.specs.declared.rules.Kind.TheVariants as kind
use Rattle.ix_model.specs.Expansion.Parts.{Parts}
use Rattle.ix_model.specs.Expansion.Planned.{IsPlanned}
use Rattle.ix_model.specs.Expansion.Numbered.{kind_at}
use Rattle.ix_model.specs.Expansion.FlatTrees.{FlatTree, flat_text, flat_insertion, flat_node, FlatTrees, no_flat, flats_and}
use Rattle.ix_model.specs.Expansion.FlatDerives.{FlatDerives}
use Rattle.ix_model.specs.Expansion.SlotPlaces.{HasNext}
use Rattle.ix_model.specs.Closure.Closed.{Part}
use Rattle.ix_closure_laws.specs.ClosedLaws.{Covers}
use Rattle.ix_model.specs.Closure.Useful.{sub_at, Useful}
use Rattle.ix_closure_laws.proofs.FlatWidths.{marked}
use Rattle.ix_closure_laws.proofs.ClosedTrees.{covers_next, whole_tree, part_split}
use Rattle.ix_closure_laws.proofs.Reaching.{reached_part, useful_reached}
use Rattle.ix_height.specs.declared.edge.Edge.{Edge}
use Rattle.ix_height.specs.declared.span.Span.{Span}
use Rattle.ix_model.specs.Expansion.FlatHeights.{raised, flat_height, flat_heights}
use Rattle.ix_height.specs.Low.{raise, no_edge, Low, by_edge, LowPart, no_part, part}
use Rattle.ix_height.specs.Spans.{is_named, of_slot, of_rule, is_raised}
use Rattle.ix_height.specs.Heights.{HasHeight}
use Rattle.ix_height.specs.Ways.{Before, Child, Way, empty, step, whole}
use Rattle.ix_height.specs.Graph.{At, PartAt, IsGraph}

-- what a rule's kind adds
pub raised_by : (k : Kind) (h : ℕ) → raised k h ≡ raise (is_named k) h
raised_by kind.Named h = refl
raised_by kind.Group h = refl
raised_by kind.Opt h = refl
raised_by kind.Star h = refl
raised_by kind.List h = refl

pub max_zero : (n : ℕ) → max n 0 ≡ n
max_zero n = omega arith

module _ (plan : Parts) (planned : IsPlanned plan) where
  -- the span, if there is one, has trees of this height
  abbrev pub PartHas : Option Span → ℕ → Type 0
  PartHas None h = h ≡ 0
  PartHas (Some t) h = HasHeight plan t h

  pub useful_part : (s l k p : ℕ) → Useful plan (sub_at s l k p) → Part plan s l k p
  useful_part s l k p u = reached_part plan planned s l k p (useful_reached plan planned (sub_at s l k p) u)

  -- trees of what stands before the symbol
  before_has : (v l k h : ℕ) (one : Option Span) → Before plan v l k one → PartHas one h → (ds : FlatTrees) × Covers plan v ds l k × (flat_heights plan.rules ds ≡ h)
  before_has v l k h one (inl b) has =
      let e : h ≡ 0 = subst (λ (z : Option Span). PartHas z h) b.2 has in
      let f = b.0.1 in
      (no_flat, (b.0.0, f.0, f.1, f.2, f.3, b.1), sym e)
  before_has v l k h one (inr b) has = subst (λ (z : Option Span). PartHas z h) b.2 has

  abbrev TreeOf : Sym → ℕ → ℕ → ℕ → Type 0
  TreeOf x k p h = (d : FlatTree) × FlatDerives plan d x k p × (flat_height plan.rules d ≡ h)

  -- a tree of the symbol
  child_has : (d : FlatTree) (x : Sym) (k p h : ℕ) (two : Option Span) → FlatDerives plan d x k p → Child x k p two → PartHas two h → TreeOf x k p h
  child_has d (sy.Rule q m) k p h two t c has =
      let e : HasHeight plan (of_rule q k p) h = subst (λ (z : Option Span). PartHas z h) c has in
      (e.0, marked plan e.0 q k p None m e.1, e.2)
  child_has (flat_text a b) (sy.Term n w) k p h two t c has = (flat_text a b, t, sym (subst (λ (z : Option Span). PartHas z h) c has))
  child_has flat_insertion (sy.Term n w) k p h two t c has = absurd (cc t.1)
  child_has (flat_node r a ds) (sy.Term n w) k p h two t c has = absurd (cc t.1)
  child_has (flat_text a b) (sy.Insert n) k p h two t c has = absurd (cc t.2.3)
  child_has flat_insertion (sy.Insert n) k p h two t c has = (flat_insertion, t, sym (subst (λ (z : Option Span). PartHas z h) c has))
  child_has (flat_node r a ds) (sy.Insert n) k p h two t c has = absurd (cc t.1)

  step_has : (v s l k p h g : ℕ) (x : Sym) → HasNext plan v s x → (ds : FlatTrees) × Covers plan v ds l k × (flat_heights plan.rules ds ≡ h) → TreeOf x k p g → HasHeight plan (of_slot s l p) (max h g)
  step_has v s l k p h g x n a b = (flats_and a.0 b.0, covers_next plan v s l k p x a.0 b.0 n b.1 a.1, omega (arith, a.2, b.2))

  pub way_has : (t : Span) (one two : Option Span) (h g : ℕ) → Way plan t one two → PartHas one h → PartHas two g → HasHeight plan t (raise (is_raised plan t) (max h g))
  way_has t one two h g (empty q s l u f last) a b = (no_flat, (q, f.0, f.1, f.2, f.3, refl), omega (arith, a, b))
  way_has t one two h g (step v s l k p x o w u n before child) a b =
      let split = part_split plan v s l k p n.0 n.1 n.2 n.3 x (useful_part s l k p u) n n.4 n.6 in
      step_has v s l k p h g x n (before_has v l k h o before a) (child_has split.1 x k p g w split.4 child b)
  way_has t one two h g (whole q s l k p u last) a b =
      let e : flat_heights plan.rules a.0 ≡ max h g = omega (arith, a.2, b) in
      (flat_node q last.0 a.0, whole_tree plan s q l p a.0 None last a.1, raised_by (kind_at plan.rules q) (flat_heights plan.rules a.0) ∙ ap (raise (is_named (kind_at plan.rules q))) e)

  -- no number is that of two spans
  pub one_span : (spans : List Span) (v : ℕ) (t u : Span) → At spans v t → At spans v u → t ≡ u
  one_span spans v t u a b = sym a.1 ∙ b.1

  module _ (spans : List Span) (edges : List Edge) (raised : List Bool) (graph : IsGraph plan spans edges raised) where
    -- what one edge gives, by what its parts give
    edge_has : (v h n h1 h2 : ℕ) (t : Span) → At spans v t → n < length edges → (get_or edges n no_edge).to ≡ v → ((o : Option Span) → PartAt spans (get_or edges n no_edge).one o → PartHas o h1) → ((o : Option Span) → PartAt spans (get_or edges n no_edge).two o → PartHas o h2) →
        h ≡ raise (get_or raised v false) (max h1 h2) → HasHeight plan t h
    edge_has v h n h1 h2 t at i to one two e =
        let s = graph.sound n i in
        let same : s.0 ≡ t = one_span spans v s.0 t (subst (λ (z : ℕ). At spans z s.0) to s.4.to) at in
        let up : get_or raised v false ≡ is_raised plan t = graph.up v t at in
        let has : HasHeight plan s.0 (raise (is_raised plan s.0) (max h1 h2)) = way_has s.0 s.1 s.2 h1 h2 s.3 (one s.1 s.4.one_at) (two s.2 s.4.two_at) in
        let on : HasHeight plan t (raise (is_raised plan t) (max h1 h2)) = subst (λ (z : Span). HasHeight plan z (raise (is_raised plan z) (max h1 h2))) same has in
        subst (λ (z : ℕ). HasHeight plan t z) (sym (e ∙ ap (λ b. raise b (max h1 h2)) up)) on

    none_has : (o : Option ℕ) (h : ℕ) → o ≡ None → h ≡ 0 → (w : Option Span) → PartAt spans o w → PartHas w h
    none_has None h e z None at = z
    none_has None h e z (Some t) at = absurd at
    none_has (Some v) h e z w at = absurd (cc e)

    some_has : (o : Option ℕ) (v h : ℕ) → o ≡ Some v → ((t : Span) → At spans v t → HasHeight plan t h) → (w : Option Span) → PartAt spans o w → PartHas w h
    some_has None v h e f w at = absurd (cc e)
    some_has (Some n) v h e f None at = absurd at
    some_has (Some n) v h e f (Some t) at = f t (subst (λ (z : ℕ). At spans z t) (cc e) at)

    mutual
      pub low_has : (v h : ℕ) → Low edges raised v h → (t : Span) → At spans v t → HasHeight plan t h
      low_has v h (by_edge _ _ n h1 h2 i to one two e) t at = edge_has v h n h1 h2 t at i to (part_has (get_or edges n no_edge).one h1 one) (part_has (get_or edges n no_edge).two h2 two) e

      part_has : (o : Option ℕ) (h : ℕ) → LowPart edges raised o h → (w : Option Span) → PartAt spans o w → PartHas w h
      part_has o h (no_part _ _ e z) w at = none_has o h e z w at
      part_has o h (part _ v _ e low) w at = some_has o v h e (low_has v h low) w at
