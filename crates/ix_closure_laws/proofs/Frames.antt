-- What is reached from the root stands in a derivation of the text.
use Rattle.std.proofs.Common.{◌≡◌, refl, sym, subst, ◌∙◌, ◌+◌, ◌-◌, ℕ, length, Option, None, arith}
use mathlib.Core.Logic.{inl, inr}
use Rattle.ix_model.specs.declared.grammar.Mark.{Mark}
use Rattle.ix_model.specs.declared.rules.Sym.{Sym}
use Rattle.ix_model.specs.declared.rules.Sym.TheVariants as sy
use Rattle.ix_model.specs.declared.sub.Sub.{Sub}
use Rattle.ix_model.specs.Expansion.Parts.{Parts}
use Rattle.ix_model.specs.Expansion.Planned.{IsPlanned}
use Rattle.ix_model.specs.Expansion.Slots.{IsSlot}
use Rattle.ix_model.specs.Expansion.FlatTrees.{FlatTree, flat_text, flat_insertion, flat_node, FlatTrees, no_flat, flats_and, flat_count, flat_width}
use Rattle.ix_model.specs.Expansion.FlatDerives.{FlatDerives, FlatDerivesFirst, IsLine, IsFlatDerivation}
use Rattle.ix_model.specs.Expansion.SlotPlaces.{HasNext, IsLastSlot}
use Rattle.ix_model.specs.Closure.Closed.{start, End, Part}
use Rattle.ix_closure_laws.specs.ClosedLaws.{Covers, IsLastFrom}
use Rattle.ix_closure_laws.specs.UsefulLaws.{HasFlatDerivation, HasRoot, HasUseful}
use Rattle.ix_model.specs.Closure.Useful.{sub_at, Stands, StandsAmong, Useful}
use Rattle.ix_closure_laws.specs.Reached.{RuleReached, root, as_child, SubReached, as_last, as_prefix}
use Rattle.ix_model.proofs.SlotPlaces.{same_slot, next_not_last}
use Rattle.ix_closure_laws.proofs.FlatWidths.{width_is, marked}
use Rattle.ix_closure_laws.proofs.ClosedTrees.{covers_next, whole_tree, end_tree, part_trees, part_split}
use Rattle.ix_closure_laws.proofs.TreesClosed.{node_closed, end_closed}
use Rattle.ix_closure_laws.proofs.Reaching.{reached_part}

module _ (plan : Parts) (planned : IsPlanned plan) where
  -- a derivation of the text around a tree of a rule, the same for each such tree
  pub record TreeFrame (q l p : ℕ) : Type 0 where
    pub fill : FlatTree → FlatTree
    pub derives : (d : FlatTree) (m : Option Mark) → FlatDerives plan d (sy.Rule q m) l p → IsFlatDerivation plan (fill d)
    pub stands : (d : FlatTree) (m : Option Mark) (sub : Sub) → FlatDerives plan d (sy.Rule q m) l p → Stands plan d sub l p → Stands plan (fill d) sub 0 (length plan.text)
    pub one_way : (d e : FlatTree) → fill d ≡ fill e → d ≡ e

  -- the same around the trees before a slot's dot
  pub record TreesFrame (s l p : ℕ) : Type 0 where
    pub fill : FlatTrees → FlatTree
    pub derives : (ds : FlatTrees) → Covers plan s ds l p → IsFlatDerivation plan (fill ds)
    pub stands : (ds : FlatTrees) (r a : ℕ) (sub : Sub) → IsSlot plan s r a (flat_count ds) → Covers plan s ds l p → Stands plan (flat_node r a ds) sub l p → Stands plan (fill ds) sub 0 (length plan.text)
    pub one_way : (ds es : FlatTrees) → fill ds ≡ fill es → ds ≡ es

  whole_frame : TreeFrame 0 0 (length plan.text)
  whole_frame = record { fill = λ d. d; derives = λ d m h. marked plan d 0 0 (length plan.text) m None h; stands = λ d m sub h st. st; one_way = λ d e h. h }

  child_frame : (slot after left pivot right rule : ℕ) (mark : Option Mark) → TreesFrame after left right → Part plan after left pivot right → HasNext plan slot after (sy.Rule rule mark) → TreeFrame rule pivot right
  child_frame slot after left pivot right rule mark f part n = record { fill = λ d. f.fill (flats_and split.0 d); derives = derives'; stands = stands'; one_way = λ d e h. cc (f.one_way (flats_and split.0 d) (flats_and split.0 e) h) }
    where
      split : (ds : FlatTrees) × (d : FlatTree) × (flat_count ds ≡ n.2) × FlatDerivesFirst plan ds n.3 left pivot × FlatDerives plan d (sy.Rule rule mark) pivot right
      split = part_split plan slot after left pivot right n.0 n.1 n.2 n.3 (sy.Rule rule mark) part n n.4 n.6

      covers : (d : FlatTree) (m : Option Mark) → FlatDerives plan d (sy.Rule rule m) pivot right → Covers plan after (flats_and split.0 d) left right
      covers d m h = covers_next plan slot after left pivot right (sy.Rule rule mark) split.0 d n (marked plan d rule pivot right m mark h) (n.0, n.1, n.3, subst (λ (z : ℕ). IsSlot plan slot n.0 n.1 z) (sym split.2) n.4, n.6, split.3)

      derives' : (d : FlatTree) (m : Option Mark) → FlatDerives plan d (sy.Rule rule m) pivot right → IsFlatDerivation plan (f.fill (flats_and split.0 d))
      derives' d m h = f.derives (flats_and split.0 d) (covers d m h)

      stands' : (d : FlatTree) (m : Option Mark) (sub : Sub) → FlatDerives plan d (sy.Rule rule m) pivot right → Stands plan d sub pivot right → Stands plan (f.fill (flats_and split.0 d)) sub 0 (length plan.text)
      stands' d m sub h st =
          let c = covers d m h in
          let k_is : pivot ≡ right - flat_width d = omega (arith, width_is plan d (sy.Rule rule m) pivot right h) in
          f.stands (flats_and split.0 d) c.0 c.1 sub c.3 c (inr (inr (inl (subst (λ (z : ℕ). Stands plan d sub z right) k_is st))))

  pub last_frame : (rule slot left right : ℕ) → TreeFrame rule left right → IsLastSlot plan slot rule → TreesFrame slot left right
  last_frame rule slot left right f last = record { fill = λ ds. f.fill (flat_node rule last.0 ds); derives = derives'; stands = stands'; one_way = λ ds es h. cc (f.one_way (flat_node rule last.0 ds) (flat_node rule last.0 es) h) }
    where
      derives' : (ds : FlatTrees) → Covers plan slot ds left right → IsFlatDerivation plan (f.fill (flat_node rule last.0 ds))
      derives' ds c = f.derives (flat_node rule last.0 ds) None (whole_tree plan slot rule left right ds None last c)

      stands' : (ds : FlatTrees) (r a : ℕ) (sub : Sub) → IsSlot plan slot r a (flat_count ds) → Covers plan slot ds left right → Stands plan (flat_node r a ds) sub left right → Stands plan (f.fill (flat_node rule last.0 ds)) sub 0 (length plan.text)
      stands' ds r a sub at c st =
          let e = same_slot plan slot r a (flat_count ds) rule last.0 (length last.1) at last.2 in
          f.stands (flat_node rule last.0 ds) None sub (whole_tree plan slot rule left right ds None last c) (subst (λ (z : ℕ). Stands plan (flat_node rule z ds) sub left right) e.1 (subst (λ (z : ℕ). Stands plan (flat_node z a ds) sub left right) e.0 st))

  prefix_frame : (slot after left first pivot right : ℕ) (x : Sym) → TreesFrame after left right → Part plan after left pivot right → HasNext plan slot after x → Part plan slot left first pivot → TreesFrame slot left pivot
  prefix_frame slot after left first pivot right x f part n mine = record { fill = λ ds. f.fill (flats_and ds split.1); derives = derives'; stands = stands'; one_way = λ ds es h. cc (f.one_way (flats_and ds split.1) (flats_and es split.1) h) }
    where
      split : (ds : FlatTrees) × (d : FlatTree) × (flat_count ds ≡ n.2) × FlatDerivesFirst plan ds n.3 left pivot × FlatDerives plan d x pivot right
      split = part_split plan slot after left pivot right n.0 n.1 n.2 n.3 x part n n.4 n.6

      covers : (ds : FlatTrees) → Covers plan slot ds left pivot → Covers plan after (flats_and ds split.1) left right
      covers ds c = covers_next plan slot after left pivot right x ds split.1 n split.4 c

      derives' : (ds : FlatTrees) → Covers plan slot ds left pivot → IsFlatDerivation plan (f.fill (flats_and ds split.1))
      derives' ds c = f.derives (flats_and ds split.1) (covers ds c)

      not_first : (r a : ℕ) → IsSlot plan slot r a 0 → (es : FlatTrees) → Covers plan slot es left pivot → IsLastFrom plan es slot left first pivot → ⊥
      not_first r a at no_flat c t = next_not_last plan slot after t.1 x n t.2
      not_first r a at (flats_and es e) c t = omega (arith, (same_slot plan slot c.0 c.1 (flat_count es + 1) r a 0 c.3 at).2)

      stands' : (ds : FlatTrees) (r a : ℕ) (sub : Sub) → IsSlot plan slot r a (flat_count ds) → Covers plan slot ds left pivot → Stands plan (flat_node r a ds) sub left pivot → Stands plan (f.fill (flats_and ds split.1)) sub 0 (length plan.text)
      stands' ds r a sub at c (inl st) =
          let t = part_trees plan slot left first pivot mine in
          absurd (not_first r a (subst (λ (z : ℕ). IsSlot plan slot r a z) st.0 at) t.0 t.1 t.2)
      stands' ds r a sub at c (inr st) =
          let e = same_slot plan slot r a (flat_count ds) n.0 n.1 n.2 at n.4 in
          let k_is : pivot ≡ right - flat_width split.1 = omega (arith, width_is plan split.1 x pivot right split.4) in
          f.stands (flats_and ds split.1) r a sub (n.5 ∙ cc (e.0, e.1, e.2)) (covers ds c) (inr (inr (inr (subst (λ (z : ℕ). StandsAmong plan ds sub r a left z) k_is st))))

  mutual
    pub rule_frame : (q l p : ℕ) → RuleReached plan q l p → TreeFrame q l p
    rule_frame q l p root = whole_frame
    rule_frame q l p (as_child slot after left pivot right rule mark h n) = child_frame slot after left pivot right rule mark (reached_frame after left pivot right h) (reached_part plan planned after left pivot right h) n

    pub reached_frame : (s l k p : ℕ) → SubReached plan s l k p → TreesFrame s l p
    reached_frame s l k p (as_last rule slot left pivot right w n part) = last_frame rule slot left right (rule_frame rule left right w) n
    reached_frame s l k p (as_prefix slot after left first pivot right x h n part) = prefix_frame slot after left first pivot right x (reached_frame after left pivot right h) (reached_part plan planned after left pivot right h) n part

  pub useful_of : (s l k p : ℕ) → SubReached plan s l k p → Useful plan (sub_at s l k p)
  useful_of s l k p h = go t.0 t.1 t.2
    where
      f : TreesFrame s l p
      f = reached_frame s l k p h

      t : (ds : FlatTrees) × Covers plan s ds l p × IsLastFrom plan ds s l k p
      t = part_trees plan s l k p (reached_part plan planned s l k p h)

      go : (ds : FlatTrees) → Covers plan s ds l p → IsLastFrom plan ds s l k p → Useful plan (sub_at s l k p)
      go no_flat c e =
          let o : p ≡ l = sym c.5 in
          (f.fill no_flat, f.derives no_flat c, f.stands no_flat c.0 c.1 (sub_at s l k p) c.3 c (inl (refl, (s, c.3, cc (o, e.0)))))
      go (flats_and ds d) c e =
          let k_is : k ≡ p - flat_width d = omega (arith, e) in
          (f.fill (flats_and ds d), f.derives (flats_and ds d) c, f.stands (flats_and ds d) c.0 c.1 (sub_at s l k p) c.3 c (inr (inl (s, c.3, cc (k_is)))))

  -- ---- the root

  pub tree_root : HasFlatDerivation plan → HasRoot plan
  tree_root (flat_text a b, h) = absurd (cc h.2.3)
  tree_root (flat_insertion, h) = absurd (cc h.1)
  tree_root (flat_node r a ds, h) =
      let e : r ≡ 0 = cc h.1 in
      let line : IsLine plan 0 a h.2 = subst (λ (z : ℕ). IsLine plan z a h.2) e h.3 in
      let n = node_closed plan planned 0 a 0 (length plan.text) ds None (None, refl, h.2, line, h.4, h.5) start in
      (n.last, n.pivot, n.is_last, n.part)

  pub root_tree : HasRoot plan → HasFlatDerivation plan
  root_tree h =
      let t = part_trees plan h.0 0 h.1 (length plan.text) h.3 in
      (flat_node 0 h.2.0 t.0, whole_tree plan h.0 0 0 (length plan.text) t.0 None h.2 t.1)

  pub root_useful : HasRoot plan → HasUseful plan
  root_useful h = (sub_at h.0 0 h.1 (length plan.text), useful_of h.0 0 h.1 (length plan.text) (as_last 0 h.0 0 h.1 (length plan.text) root h.2 h.3))

  pub useful_tree : HasUseful plan → HasFlatDerivation plan
  useful_tree h = (h.1.0, h.1.1)

  pub tree_end : HasFlatDerivation plan → End plan 0 0 (length plan.text)
  tree_end h = end_closed plan planned h.0 0 0 (length plan.text) start h.1

  pub end_derivation : End plan 0 0 (length plan.text) → HasFlatDerivation plan
  end_derivation h = let t = end_tree plan 0 0 (length plan.text) h in (t.0, t.1 None)
