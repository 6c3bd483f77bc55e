-- Where a rule is called, its trees have their facts in the closure.
use Rattle.std.proofs.Common.{◌≡◌, refl, sym, subst, ◌+◌, ℕ, List, length, Option, None, arith}
use Rattle.ix_model.specs.declared.grammar.Mark.{Mark}
use Rattle.ix_model.specs.declared.rules.Sym.{Sym}
use Rattle.ix_model.specs.declared.rules.Sym.TheVariants as sy
use Rattle.ix_model.specs.Expansion.Parts.{Parts}
use Rattle.ix_model.specs.Expansion.Planned.{IsPlanned}
use Rattle.ix_model.specs.Expansion.Slots.{IsSlot}
use Rattle.ix_model.specs.Expansion.FlatTrees.{FlatTree, flat_text, flat_insertion, flat_node, FlatTrees, no_flat, flats_and, flat_count}
use Rattle.ix_model.specs.Expansion.FlatDerives.{FlatDerives, FlatDerivesFirst, IsLine}
use Rattle.ix_model.specs.Expansion.SlotPlaces.{HasNext, IsLastSlot}
use Rattle.ix_model.specs.Closure.Closed.{Called, by_edge, Desc, begun, arrived, waiting, End, ended, Part, empty, scanned, inserted, joined}
use Rattle.ix_closure_laws.specs.ClosedLaws.{IsCalledFor, Covers, IsLastFrom}
use Rattle.ix_model.proofs.SlotPlaces.{same_slot, slot_for, before_of, same_before}
use Rattle.ix_closure_laws.proofs.FlatWidths.{width_is}

module _ (plan : Parts) (planned : IsPlanned plan) where
  mutual
    -- the descriptor behind trees of a called rule
    pub trees_closed : (ds : FlatTrees) (s r a : ℕ) (syms : List Sym) (l p : ℕ) → IsLine plan r a syms → IsSlot plan s r a (flat_count ds) → Called plan r l → FlatDerivesFirst plan ds syms l p → Desc plan s l p
    trees_closed no_flat s r a syms l p line at c h = subst (λ (z : ℕ). Desc plan s l z) h (begun r l s c (a, syms, at, line))
    trees_closed (flats_and ds d) s r a syms l p line at c h =
        let v = before_of plan planned s r a (flat_count ds) syms h.1 line at h.3 in
        arrived s l h.0 p (symbol_closed d v.slot s l h.0 p h.1 (trees_closed ds v.slot r a syms l h.0 line v.at c h.2) v.next h.4)

    -- the subtree behind one symbol
    pub symbol_closed : (d : FlatTree) (s after l k p : ℕ) (x : Sym) → Desc plan s l k → HasNext plan s after x → FlatDerives plan d x k p → Part plan after l k p
    symbol_closed (flat_text a b) s after l k p x d n h = scanned s l k after p x d n h.2
    symbol_closed flat_insertion s after l k p x d n h = subst (λ (z : ℕ). Part plan after l k z) h.2 (inserted s l k after h.0 d (subst (λ (z : Sym). HasNext plan s after z) h.1 n))
    symbol_closed (flat_node q a ds) s after l k p x d n h =
        let m : HasNext plan s after (sy.Rule q h.0) = subst (λ (z : Sym). HasNext plan s after z) h.1 n in
        let e = waiting s l k after q h.0 d m in
        let last = slot_for plan planned q a (length h.2) h.2 h.3 (omega arith) in
        let at : IsSlot plan last.0 q a (flat_count ds) = subst (λ (z : ℕ). IsSlot plan last.0 q a z) (sym h.4) last.1 in
        joined q k s l p after h.0 e (ended last.0 k p q (trees_closed ds last.0 q a h.2 k p h.3 at (by_edge q k s l e) h.5) (a, h.2, last.1, h.3)) m

  -- a node of a called rule: its last slot, and the last of its subtrees
  pub record Node (q a l p : ℕ) (ds : FlatTrees) : Type 0 where
    pub last : ℕ
    pub pivot : ℕ
    pub syms : List Sym
    pub line : IsLine plan q a syms
    pub at : IsSlot plan last q a (flat_count ds)
    pub is_last : IsLastSlot plan last q
    pub part : Part plan last l pivot p
    pub trees : FlatDerivesFirst plan ds syms l p

  last_part : (ds : FlatTrees) (s q a : ℕ) (syms : List Sym) (l p : ℕ) → IsLine plan q a syms → IsSlot plan s q a (flat_count ds) → flat_count ds ≡ length syms → Called plan q l → FlatDerivesFirst plan ds syms l p → (k : ℕ) × Part plan s l k p
  last_part no_flat s q a syms l p line at n c h =
      (l, subst (λ (z : ℕ). Part plan s l l z) h (empty q l s c (a, syms, at, line) (a, syms, subst (λ (z : ℕ). IsSlot plan s q a z) n at, line)))
  last_part (flats_and ds d) s q a syms l p line at n c h =
      let v = before_of plan planned s q a (flat_count ds) syms h.1 line at h.3 in
      (h.0, symbol_closed d v.slot s l h.0 p h.1 (trees_closed ds v.slot q a syms l h.0 line v.at c h.2) v.next h.4)

  pub node_closed : (q a l p : ℕ) (ds : FlatTrees) (m : Option Mark) → FlatDerives plan (flat_node q a ds) (sy.Rule q m) l p → Called plan q l → Node q a l p ds
  node_closed q a l p ds m h c =
      let s = slot_for plan planned q a (length h.2) h.2 h.3 (omega arith) in
      let at : IsSlot plan s.0 q a (flat_count ds) = subst (λ (z : ℕ). IsSlot plan s.0 q a z) (sym h.4) s.1 in
      let k = last_part ds s.0 q a h.2 l p h.3 at h.4 c h.5 in
      record { last = s.0; pivot = k.0; syms = h.2; line = h.3; at = at; is_last = (a, h.2, s.1, h.3); part = k.1; trees = h.5 }

  -- the descriptor of the slot before a subtree is there
  pub part_before : (after l k p s : ℕ) (x : Sym) → Part plan after l k p → HasNext plan s after x → Desc plan s l k
  part_before after l k p s x (empty rule at slot c f g) n = absurd (omega (arith, (same_slot plan after rule f.0 0 n.0 n.1 (n.2 + 1) f.2 n.5).2))
  part_before after l k p s x (scanned slot left pivot af right y d h t) n = subst (λ (z : ℕ). Desc plan z l k) (same_before plan planned slot s after y x h n) d
  part_before after l k p s x (inserted slot left pivot af m d h) n = subst (λ (z : ℕ). Desc plan z l k) (same_before plan planned slot s after (sy.Insert m) x h n) d
  part_before after l k p s x (joined rule pivot slot left right af mark (waiting sl le at ak ru ma d g) f h) n = subst (λ (z : ℕ). Desc plan z l k) (same_before plan planned slot s after (sy.Rule rule mark) x h n) d

  pub end_closed : (d : FlatTree) (q l p : ℕ) → Called plan q l → FlatDerives plan d (sy.Rule q None) l p → End plan q l p
  end_closed (flat_text a b) q l p c h = absurd (cc h.2.3)
  end_closed flat_insertion q l p c h = absurd (cc h.1)
  end_closed (flat_node r a ds) q l p c h =
      let e : r ≡ q = cc h.1 in
      let line : IsLine plan q a h.2 = subst (λ (z : ℕ). IsLine plan z a h.2) e h.3 in
      let n = node_closed q a l p ds None (None, refl, h.2, line, h.4, h.5) c in
      ended n.last l p q (trees_closed ds n.last q a n.syms l p n.line n.at c n.trees) n.is_last

  -- the slot's rule is called, by the numbers of its trees
  called_by : (s l p : ℕ) (ds : FlatTrees) → IsCalledFor plan s l → (h : Covers plan s ds l p) → Called plan h.0 l
  called_by s l p ds c h = subst (λ (z : ℕ). Called plan z l) (same_slot plan s c.0 c.1 c.2 h.0 h.1 (flat_count ds) c.3 h.3).0 c.4

  pub covered_desc : (s l p : ℕ) (ds : FlatTrees) → IsCalledFor plan s l → Covers plan s ds l p → Desc plan s l p
  covered_desc s l p ds c h = trees_closed ds s h.0 h.1 h.2 l p h.4 h.3 (called_by s l p ds c h) h.5

  pub covered_part : (s l k p : ℕ) (ds : FlatTrees) → IsCalledFor plan s l → Covers plan s ds l p → IsLastFrom plan ds s l k p → Part plan s l k p
  covered_part s l k p no_flat c h t =
      let e = same_slot plan s h.0 h.1 0 t.1 t.2.0 (length t.2.1) h.3 t.2.2 in
      let last : IsLastSlot plan s h.0 = subst (λ (z : ℕ). IsLastSlot plan s z) (sym e.0) t.2 in
      let part = empty h.0 l s (called_by s l p no_flat c h) (h.1, h.2, h.3, h.4) last in
      subst (λ (z : ℕ). Part plan s l k z) h.5 (subst (λ (z : ℕ). Part plan s l z l) (sym t.0) part)
  covered_part s l k p (flats_and ds d) c h t =
      let v = before_of plan planned s h.0 h.1 (flat_count ds) h.2 h.5.1 h.4 h.3 h.5.3 in
      let part = symbol_closed d v.slot s l h.5.0 p h.5.1 (trees_closed ds v.slot h.0 h.1 h.2 l h.5.0 h.4 v.at (called_by s l p (flats_and ds d) c h) h.5.2) v.next h.5.4 in
      let k_is : h.5.0 ≡ k = omega (arith, width_is plan d h.5.1 h.5.0 p h.5.4, t) in
      subst (λ (z : ℕ). Part plan s l z p) k_is part
