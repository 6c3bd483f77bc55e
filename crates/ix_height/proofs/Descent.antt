-- Each tree of a useful span is made of ways.
use Rattle.std.proofs.Common.{◌≡◌, refl, ap, sym, subst, ◌∙◌, ◌+◌, ℕ, max, Bool, false, List, length, Option, Some, None, arith, get_or}
use mathlib.Core.Logic.{inl, inr}
use Rattle.ix_model.specs.declared.grammar.Mark.{Mark}
use Rattle.ix_model.specs.declared.rules.Sym.{Sym}
use Rattle.ix_model.specs.declared.rules.Sym.TheVariants as sy
use Rattle.ix_model.specs.Expansion.Parts.{Parts}
use Rattle.ix_model.specs.Expansion.Planned.{IsPlanned}
use Rattle.ix_model.specs.Expansion.Slots.{IsSlot}
use Rattle.ix_model.specs.Expansion.Numbered.{kind_at}
use Rattle.ix_model.specs.Expansion.FlatTrees.{FlatTree, flat_text, flat_insertion, flat_node, FlatTrees, no_flat, flats_and, flat_count}
use Rattle.ix_model.specs.Expansion.FlatDerives.{FlatDerives, FlatDerivesFirst, IsLine}
use Rattle.ix_model.specs.Expansion.SlotPlaces.{IsFirstSlot, IsLastSlot, HasNext}
use Rattle.ix_model.specs.Closure.Closed.{Called, Part}
use Rattle.ix_closure_laws.specs.ClosedLaws.{Covers, IsLastFrom}
use Rattle.ix_model.specs.Closure.Useful.{sub_at}
use Rattle.ix_closure_laws.specs.Reached.{RuleReached, as_child, SubReached, as_last, as_prefix}
use Rattle.ix_model.proofs.SlotPlaces.{same_slot, before_of, next_not_last}
use Rattle.ix_closure_laws.proofs.FlatWidths.{width_is}
use Rattle.ix_closure_laws.proofs.ClosedTrees.{part_trees, part_called}
use Rattle.ix_closure_laws.proofs.TreesClosed.{node_closed, covered_part}
use Rattle.ix_closure_laws.proofs.Reaching.{reached_part, rule_called, useful_reached}
use Rattle.ix_closure_laws.proofs.Frames.{useful_of}
use Rattle.ix_height.specs.declared.edge.Edge.{Edge}
use Rattle.ix_height.specs.declared.span.Span.{Span}
use Rattle.ix_height.specs.declared.span.Owner.{Owner}
use Rattle.ix_height.specs.declared.span.Owner.TheVariants as owner
use Rattle.ix_model.specs.Expansion.FlatHeights.{flat_height, flat_heights}
use Rattle.ix_height.specs.Low.{raise, no_edge, Low, by_edge, LowPart, no_part, part}
use Rattle.ix_height.specs.Spans.{is_named, of_slot, of_rule, IsOfUse, IsOwnerOfUse, is_raised}
use Rattle.ix_height.specs.Heights.{HasHeight, HasOwnerHeight}
use Rattle.ix_height.specs.Ways.{Before, Child, Way, empty, step, whole}
use Rattle.ix_height.specs.Graph.{At, PartAt, IsGraph}
use Rattle.ix_height.specs.HeightLaws.{LowIsHeight}
use Rattle.ix_height.proofs.Ascent.{max_zero, raised_by, low_has}

module _ (plan : Parts) (planned : IsPlanned plan) where
  -- where one subtree of a span is reached, all of them are
  pub reached_other : (s l k p : ℕ) → SubReached plan s l k p → (j : ℕ) → Part plan s l j p → SubReached plan s l j p
  reached_other s l k p (as_last rule slot left pivot right w n old) j other = as_last rule slot left j right w n other
  reached_other s l k p (as_prefix slot after left first pivot right x h n old) j other = as_prefix slot after left j pivot right x h n other

  pub last_reached : (s l k p q : ℕ) → IsLastSlot plan s q → SubReached plan s l k p → RuleReached plan q l p
  last_reached s l k p q n (as_last rule slot left pivot right w m old) = subst (λ (z : ℕ). RuleReached plan z l p) (same_slot plan s rule m.0 (length m.1) q n.0 (length n.1) m.2 n.2).0 w
  last_reached s l k p q n (as_prefix slot after left first pivot right x h m old) = absurd (next_not_last plan s after q x m n)

  -- the slot's rule is called, by the numbers of its trees
  pub called_by : (s l k p : ℕ) (ds : FlatTrees) → SubReached plan s l k p → (c : Covers plan s ds l p) → Called plan c.0 l
  called_by s l k p ds h c =
      let f = part_called plan s l k p (reached_part plan planned s l k p h) in
      subst (λ (z : ℕ). Called plan z l) (same_slot plan s f.0 f.1 f.2 c.0 c.1 (flat_count ds) f.3 c.3).0 f.4

  module _ (spans : List Span) (edges : List Edge) (raised : List Bool) (graph : IsGraph plan spans edges raised) where
    abbrev pub LowAt : Span → ℕ → Type 0
    LowAt t h = (v : ℕ) × At spans v t × Low edges raised v h

    abbrev PartLow : Option Span → ℕ → Type 0
    PartLow None h = h ≡ 0
    PartLow (Some t) h = LowAt t h

    part_low : (o : Option ℕ) (w : Option Span) (h : ℕ) → PartAt spans o w → PartLow w h → LowPart edges raised o h
    part_low None None h at low = no_part None h refl low
    part_low None (Some t) h at low = absurd at
    part_low (Some v) None h at low = absurd at
    part_low (Some v) (Some t) h at low =
        let e : low.0 ≡ v = graph.distinct low.0 v low.1.0 at.0 (low.1.1 ∙ sym at.1) in
        part (Some v) v h refl (subst (λ (z : ℕ). Low edges raised z h) e low.2)

    way_low : (t : Span) (one two : Option Span) (h g : ℕ) → Way plan t one two → PartLow one h → PartLow two g → LowAt t (raise (is_raised plan t) (max h g))
    way_low t one two h g way a b =
        let n = graph.complete t one two way in
        let e : Edge = get_or edges n.0 no_edge in
        let up : raise (is_raised plan t) (max h g) ≡ raise (get_or raised e.to false) (max h g) = ap (λ (z : Bool). raise z (max h g)) (sym (graph.up e.to t n.2.to)) in
        (e.to, n.2.to, by_edge e.to (raise (is_raised plan t) (max h g)) n.0 h g n.1 refl (part_low e.one one h n.2.one_at a) (part_low e.two two g n.2.two_at b) up)

    none_low : (s l p k : ℕ) → SubReached plan s l k p → Covers plan s no_flat l p → LowAt (of_slot s l p) 0
    none_low s l p k w c = go t.0 t.1 t.2
      where
        t : (es : FlatTrees) × Covers plan s es l p × IsLastFrom plan es s l k p
        t = part_trees plan s l k p (reached_part plan planned s l k p w)

        go : (es : FlatTrees) → Covers plan s es l p → IsLastFrom plan es s l k p → LowAt (of_slot s l p) 0
        go (flats_and es e) d f = absurd (omega (arith, (same_slot plan s c.0 c.1 0 d.0 d.1 (flat_count es + 1) c.3 d.3).2))
        go no_flat d f =
            let q : c.0 ≡ f.1 = (same_slot plan s c.0 c.1 0 f.1 f.2.0 (length f.2.1) c.3 f.2.2).0 in
            let first : IsFirstSlot plan s f.1 = subst (λ (z : ℕ). IsFirstSlot plan s z) q (c.1, c.2, c.3, c.4) in
            let here : SubReached plan s l l l = subst (λ (z : ℕ). SubReached plan s l l z) (sym c.5) (subst (λ (z : ℕ). SubReached plan s l z p) f.0 w) in
            subst (λ (z : ℕ). LowAt (of_slot s l z) 0) c.5 (way_low (of_slot s l l) None None 0 0 (empty f.1 s l (useful_of plan planned s l l l here) first f.2) refl refl)

    prefix_low : (ds : FlatTrees) (v s r a l k p : ℕ) (syms : List Sym) (x : Sym) → SubReached plan s l k p → HasNext plan v s x → IsSlot plan v r a (flat_count ds) → IsLine plan r a syms → Called plan r l → FlatDerivesFirst plan ds syms l k →
        ((j : ℕ) → SubReached plan v l j k → Covers plan v ds l k → LowAt (of_slot v l k) (flat_heights plan.rules ds)) → (one : Option Span) × Before plan v l k one × PartLow one (flat_heights plan.rules ds)
    prefix_low no_flat v s r a l k p syms x w n at line c first low = (None, inl ((r, (a, syms, at, line)), first, refl), refl)
    prefix_low (flats_and ds d) v s r a l k p syms x w n at line c first low =
        let covers : Covers plan v (flats_and ds d) l k = (r, a, syms, at, line, first) in
        let other : Part plan v l first.0 k = covered_part plan planned v l first.0 k (flats_and ds d) (r, a, flat_count ds + 1, at, c) covers (width_is plan d first.1 first.0 k first.4) in
        let reached : SubReached plan v l first.0 k = as_prefix v s l first.0 k p x w n other in
        (Some (of_slot v l k), inr (first.0, useful_of plan planned v l first.0 k reached, refl), low first.0 reached covers)

    child_low : (d : FlatTree) (x : Sym) (k p : ℕ) → FlatDerives plan d x k p → ((q : ℕ) (m : Option Mark) → x ≡ sy.Rule q m → FlatDerives plan d (sy.Rule q m) k p → LowAt (of_rule q k p) (flat_height plan.rules d)) → (two : Option Span) × Child x k p two × PartLow two (flat_height plan.rules d)
    child_low (flat_text a b) x k p t low = (None, subst (λ (z : Sym). Child z k p None) (sym t.2.3) refl, refl)
    child_low flat_insertion x k p t low = (None, subst (λ (z : Sym). Child z k p None) (sym t.1) refl, refl)
    child_low (flat_node q a ds) x k p t low =
        (Some (of_rule q k p), subst (λ (z : Sym). Child z k p (Some (of_rule q k p))) (sym t.1) refl, low q t.0 t.1 (subst (λ (z : Sym). FlatDerives plan (flat_node q a ds) z k p) t.1 t))

    more_low : (ds : FlatTrees) (d : FlatTree) (s l p k : ℕ) → SubReached plan s l k p → Covers plan s (flats_and ds d) l p →
        ((v m j : ℕ) → SubReached plan v l j m → Covers plan v ds l m → LowAt (of_slot v l m) (flat_heights plan.rules ds)) →
        ((q m : ℕ) (mark : Option Mark) → RuleReached plan q m p → FlatDerives plan d (sy.Rule q mark) m p → LowAt (of_rule q m p) (flat_height plan.rules d)) → LowAt (of_slot s l p) (flat_heights plan.rules (flats_and ds d))
    more_low ds d s l p k w c before child =
        let called = called_by s l k p (flats_and ds d) w c in
        let m : ℕ = c.5.0 in
        let v = before_of plan planned s c.0 c.1 (flat_count ds) c.2 c.5.1 c.4 c.3 c.5.3 in
        let mine : Part plan s l m p = covered_part plan planned s l m p (flats_and ds d) (c.0, c.1, flat_count ds + 1, c.3, called) c (width_is plan d c.5.1 m p c.5.4) in
        let here : SubReached plan s l m p = reached_other s l k p w m mine in
        let one = prefix_low ds v.slot s c.0 c.1 l m p c.2 c.5.1 here v.next v.at c.4 called c.5.2 (λ j r cs. before v.slot m j r cs) in
        let two = child_low d c.5.1 m p c.5.4 (λ q mark e t. child q m mark (as_child v.slot s l m p q mark here (subst (λ (z : Sym). HasNext plan v.slot s z) e v.next)) t) in
        way_low (of_slot s l p) one.0 two.0 (flat_heights plan.rules ds) (flat_height plan.rules d) (step v.slot s l m p c.5.1 one.0 two.0 (useful_of plan planned s l m p here) v.next one.1 two.1) one.2 two.2

    node_low : (q a l p : ℕ) (ds : FlatTrees) (m : Option Mark) → RuleReached plan q l p → Called plan q l → FlatDerives plan (flat_node q a ds) (sy.Rule q m) l p → ((s k : ℕ) → SubReached plan s l k p → Covers plan s ds l p → LowAt (of_slot s l p) (flat_heights plan.rules ds)) →
        LowAt (of_rule q l p) (flat_height plan.rules (flat_node q a ds))
    node_low q a l p ds m w c t low =
        let n = node_closed plan planned q a l p ds m t c in
        let here : SubReached plan n.last l n.pivot p = as_last q n.last l n.pivot p w n.is_last n.part in
        let one = low n.last n.pivot here (q, a, n.syms, n.at, n.line, n.trees) in
        let all = way_low (of_rule q l p) (Some (of_slot n.last l p)) None (flat_heights plan.rules ds) 0 (whole q n.last l n.pivot p (useful_of plan planned n.last l n.pivot p here) n.is_last) one refl in
        subst (λ (z : ℕ). LowAt (of_rule q l p) z) (ap (raise (is_named (kind_at plan.rules q))) (max_zero (flat_heights plan.rules ds)) ∙ sym (raised_by (kind_at plan.rules q) (flat_heights plan.rules ds))) all

    mutual
      pub trees_low : (ds : FlatTrees) (s l p k : ℕ) → SubReached plan s l k p → Covers plan s ds l p → LowAt (of_slot s l p) (flat_heights plan.rules ds)
      trees_low no_flat s l p k w c = none_low s l p k w c
      trees_low (flats_and ds d) s l p k w c = more_low ds d s l p k w c (λ v m j r cs. trees_low ds v l m j r cs) (λ q m mark r t. tree_low d q m p mark r t)

      pub tree_low : (d : FlatTree) (q l p : ℕ) (m : Option Mark) → RuleReached plan q l p → FlatDerives plan d (sy.Rule q m) l p → LowAt (of_rule q l p) (flat_height plan.rules d)
      tree_low (flat_text a b) q l p m w t = absurd (cc t.2.3)
      tree_low flat_insertion q l p m w t = absurd (cc t.1)
      tree_low (flat_node r a ds) q l p m w t =
          let e : r ≡ q = cc t.1 in
          let u : FlatDerives plan (flat_node q a ds) (sy.Rule q m) l p = subst (λ (z : ℕ). FlatDerives plan (flat_node z a ds) (sy.Rule q m) l p) e t in
          let low = node_low q a l p ds m w (rule_called plan planned q l p w) u (λ s k h cs. trees_low ds s l p k h cs) in
          subst (λ (z : ℕ). LowAt (of_rule q l p) (flat_height plan.rules (flat_node z a ds))) (sym e) low

    of_use : (t : Span) (h : ℕ) → IsOfUse plan t → HasHeight plan t h → LowAt t h
    of_use t h = go t.owner t.left t.right
      where
        go : (o : Owner) (l p : ℕ) → IsOwnerOfUse plan o l p → HasOwnerHeight plan o l p h → LowAt (record { owner = o; left = l; right = p }) h
        go (owner.Slot s) l p u t = subst (λ (z : ℕ). LowAt (of_slot s l p) z) t.2 (trees_low t.0 s l p u.0 (useful_reached plan planned (sub_at s l u.0 p) u.1) t.1)
        go (owner.Rule q) l p u t = subst (λ (z : ℕ). LowAt (of_rule q l p) z) t.2 (tree_low t.0 q l p None (last_reached u.0 l u.1 p q u.2 (useful_reached plan planned (sub_at u.0 l u.1 p) u.3)) t.1)

    pub is_height : LowIsHeight plan spans edges raised
    is_height = record { tree = λ v t h at low. low_has plan planned spans edges raised graph v h low t at; low = of_use }
