-- Where a span is of use, so are the spans of all its trees.
use Rattle.std.proofs.Common.{◌≡◌, refl, subst, ◌+◌, ℕ, length, Option}
use Rattle.ix_model.specs.declared.grammar.Mark.{Mark}
use Rattle.ix_model.specs.declared.rules.Sym.{Sym}
use Rattle.ix_model.specs.declared.rules.Sym.TheVariants as sy
use Rattle.ix_model.specs.Expansion.Parts.{Parts}
use Rattle.ix_model.specs.Expansion.Planned.{IsPlanned}
use Rattle.ix_model.specs.Expansion.FlatTrees.{FlatTree, flat_text, flat_insertion, flat_node, FlatTrees, no_flat, flats_and, flat_count}
use Rattle.ix_model.specs.Expansion.FlatDerives.{FlatDerives}
use Rattle.ix_model.specs.Expansion.SlotPlaces.{IsLastSlot, HasNext}
use Rattle.ix_model.specs.Closure.Closed.{Called, Part}
use Rattle.ix_closure_laws.specs.ClosedLaws.{IsCalledFor, Covers}
use Rattle.ix_model.specs.Closure.Useful.{sub_at}
use Rattle.ix_closure_laws.specs.Reached.{RuleReached, as_child, SubReached, as_last, as_prefix}
use Rattle.ix_model.proofs.SlotPlaces.{same_slot}
use Rattle.ix_closure_laws.proofs.FlatWidths.{width_is}
use Rattle.ix_closure_laws.proofs.ClosedTrees.{covers_next, part_called}
use Rattle.ix_closure_laws.proofs.TreesClosed.{node_closed, covered_part}
use Rattle.ix_closure_laws.proofs.Reaching.{reached_part, rule_called, useful_reached}
use Rattle.ix_closure_laws.proofs.Frames.{useful_of}
use Rattle.ix_height.specs.Spans.{of_slot, of_rule, IsOfUse}
use Rattle.ix_height.proofs.Descent.{reached_other, last_reached, called_by}

module _ (plan : Parts) (planned : IsPlanned plan) where
  rule_reached : (q l p : ℕ) → IsOfUse plan (of_rule q l p) → RuleReached plan q l p
  rule_reached q l p u = last_reached plan planned u.0 l u.1 p q u.2 (useful_reached plan planned (sub_at u.0 l u.1 p) u.3)

  -- each alternative that derives the rule's span
  pub alt_of_use : (q s l p : ℕ) (ds : FlatTrees) → IsOfUse plan (of_rule q l p) → IsLastSlot plan s q → Covers plan s ds l p → IsOfUse plan (of_slot s l p)
  alt_of_use q s l p ds u last c = go ds c
    where
      called : IsCalledFor plan s l
      called = (q, last.0, length last.1, last.2, rule_called plan planned q l p (rule_reached q l p u))

      use_of : (k : ℕ) → Part plan s l k p → IsOfUse plan (of_slot s l p)
      use_of k part = (k, useful_of plan planned s l k p (as_last q s l k p (rule_reached q l p u) last part))

      go : (es : FlatTrees) → Covers plan s es l p → IsOfUse plan (of_slot s l p)
      go no_flat h = use_of l (covered_part plan planned s l l p no_flat called h (refl, q, last))
      go (flats_and es d) h = use_of h.5.0 (covered_part plan planned s l h.5.0 p (flats_and es d) called h (width_is plan d h.5.1 h.5.0 p h.5.4))

  -- the subtree behind trees of a useful slot's span
  here : (v s l k p : ℕ) (x : Sym) (ds : FlatTrees) (d : FlatTree) → IsOfUse plan (of_slot s l p) → HasNext plan v s x → Covers plan v ds l k → FlatDerives plan d x k p → SubReached plan s l k p
  here v s l k p x ds d u n c t =
      let w = useful_reached plan planned (sub_at s l u.0 p) u.1 in
      let all : Covers plan s (flats_and ds d) l p = covers_next plan v s l k p x ds d n t c in
      let called = called_by plan planned s l u.0 p (flats_and ds d) w all in
      reached_other plan planned s l u.0 p w k (covered_part plan planned s l k p (flats_and ds d) (all.0, all.1, flat_count ds + 1, all.3, called) all (width_is plan d x k p t))

  -- what stands before the last symbol, unless that is nothing
  pub before_of_use : (v s l k p : ℕ) (x : Sym) (ds : FlatTrees) (e d : FlatTree) → IsOfUse plan (of_slot s l p) → HasNext plan v s x → Covers plan v (flats_and ds e) l k → FlatDerives plan d x k p → IsOfUse plan (of_slot v l k)
  before_of_use v s l k p x ds e d u n c t =
      let w = here v s l k p x (flats_and ds e) d u n c t in
      let f = part_called plan s l k p (reached_part plan planned s l k p w) in
      let called : IsCalledFor plan v l = (n.0, n.1, n.2, n.4, subst (λ (z : ℕ). Called plan z l) (same_slot plan s f.0 f.1 f.2 n.0 n.1 (n.2 + 1) f.3 n.5).0 f.4) in
      let part : Part plan v l c.5.0 k = covered_part plan planned v l c.5.0 k (flats_and ds e) called c (width_is plan e c.5.1 c.5.0 k c.5.4) in
      (c.5.0, useful_of plan planned v l c.5.0 k (as_prefix v s l c.5.0 k p x w n part))

  -- the last symbol, if it is a rule
  pub child_of_use : (v s l k p q : ℕ) (m : Option Mark) (ds : FlatTrees) (d : FlatTree) → IsOfUse plan (of_slot s l p) → HasNext plan v s (sy.Rule q m) → Covers plan v ds l k → FlatDerives plan d (sy.Rule q m) k p → IsOfUse plan (of_rule q k p)
  child_of_use v s l k p q m ds d u n c t = go d t
    where
      w : RuleReached plan q k p
      w = as_child v s l k p q m (here v s l k p (sy.Rule q m) ds d u n c t) n

      go : (e : FlatTree) → FlatDerives plan e (sy.Rule q m) k p → IsOfUse plan (of_rule q k p)
      go (flat_text a b) h = absurd (cc h.2.3)
      go flat_insertion h = absurd (cc h.1)
      go (flat_node r a es) h =
          let e : r ≡ q = cc h.1 in
          let x : FlatDerives plan (flat_node q a es) (sy.Rule q m) k p = subst (λ (z : ℕ). FlatDerives plan (flat_node z a es) (sy.Rule q m) k p) e h in
          let c = node_closed plan planned q a k p es m x (rule_called plan planned q k p w) in
          (c.last, c.pivot, c.is_last, useful_of plan planned c.last k c.pivot p (as_last q c.last k c.pivot p w c.is_last c.part))
