-- Each fact of the closure has its trees, and its rule is called.
use Rattle.std.proofs.Common.{◌≡◌, refl, ap, sym, subst, ◌∙◌, ◌+◌, ℕ, List, length, Option, Some, arith, slice_get}
use Rattle.ix_model.specs.declared.grammar.Mark.{Mark}
use Rattle.ix_model.specs.declared.rules.Sym.{Sym}
use Rattle.ix_model.specs.declared.rules.Sym.TheVariants as sy
use Rattle.ix_model.specs.Expansion.Parts.{Parts}
use Rattle.ix_model.specs.Expansion.Slots.{IsSlot}
use Rattle.ix_model.specs.Expansion.FlatTrees.{FlatTree, flat_text, flat_insertion, flat_node, FlatTrees, no_flat, flats_and, flat_count}
use Rattle.ix_model.specs.Expansion.FlatDerives.{FlatDerives, FlatDerivesFirst, IsLine}
use Rattle.ix_model.specs.Expansion.SlotPlaces.{HasNext, IsLastSlot}
use Rattle.ix_model.specs.Closure.Closed.{Called, Desc, begun, arrived, Edge, waiting, End, ended, Part, empty, scanned, inserted, joined}
use Rattle.ix_closure_laws.specs.ClosedLaws.{IsCalledFor, Covers, IsLastFrom}
use Rattle.ix_model.proofs.SlotPlaces.{same_slot, same_line, line_by, next_at}
use Rattle.ix_closure_laws.proofs.FlatWidths.{width_is}

module _ (plan : Parts) where
  -- one more tree
  pub covers_next : (s after l k r : ℕ) (x : Sym) (ds : FlatTrees) (d : FlatTree) → HasNext plan s after x → FlatDerives plan d x k r → Covers plan s ds l k → Covers plan after (flats_and ds d) l r
  covers_next s after l k r x ds d h t c =
      let n = next_at plan s after c.0 c.1 (flat_count ds) c.2 x h c.3 c.4 in
      (c.0, c.1, c.2, n.0, c.4, (k, x, c.5, n.1, t))

  covers_more : (s after l k r : ℕ) (x : Sym) (d : FlatTree) → HasNext plan s after x → FlatDerives plan d x k r → (ds : FlatTrees) × Covers plan s ds l k → (ds : FlatTrees) × Covers plan after ds l r × IsLastFrom plan ds after l k r
  covers_more s after l k r x d h t c = (flats_and c.0 d, covers_next s after l k r x c.0 d h t c.1, width_is plan d x k r t)

  -- the trees of a whole alternative are a tree of the rule
  pub whole_tree : (s q l p : ℕ) (ds : FlatTrees) (m : Option Mark) (last : IsLastSlot plan s q) → Covers plan s ds l p → FlatDerives plan (flat_node q last.0 ds) (sy.Rule q m) l p
  whole_tree s q l p ds m last c =
      let e = same_slot plan s c.0 c.1 (flat_count ds) q last.0 (length last.1) c.3 last.2 in
      let line = line_by plan c.0 q c.1 last.0 c.2 e.0 e.1 c.4 in
      (m, refl, c.2, line, e.2 ∙ ap length (sym (same_line plan q last.0 c.2 last.1 line last.3)), c.5)

  mutual
    pub desc_trees : (s l p : ℕ) → Desc plan s l p → (ds : FlatTrees) × Covers plan s ds l p
    desc_trees s l p (begun rule at slot c f) = (no_flat, (rule, f.0, f.1, f.2, f.3, refl))
    desc_trees s l p (arrived slot left pivot right h) = let t = part_trees slot left pivot right h in (t.0, t.1)

    pub edge_trees : (r p s l : ℕ) → Edge plan r p s l → (ds : FlatTrees) × Covers plan s ds l p
    edge_trees r p s l (waiting slot left at after rule mark d h) = desc_trees slot left at d

    pub end_tree : (q l e : ℕ) → End plan q l e → (d : FlatTree) × ((m : Option Mark) → FlatDerives plan d (sy.Rule q m) l e)
    end_tree q l e (ended slot left right rule d h) =
        let t = desc_trees slot left right d in
        (flat_node rule h.0 t.0, λ m. whole_tree slot rule left right t.0 m h t.1)

    pub part_trees : (s l k r : ℕ) → Part plan s l k r → (ds : FlatTrees) × Covers plan s ds l r × IsLastFrom plan ds s l k r
    part_trees s l k r (empty rule at slot c f g) = (no_flat, (rule, f.0, f.1, f.2, f.3, refl), (refl, rule, g))
    part_trees s l k r (scanned slot left pivot after right x d h t) = covers_more slot after left pivot right x (flat_text pivot right) h (refl, refl, t) (desc_trees slot left pivot d)
    part_trees s l k r (inserted slot left pivot after n d h) = covers_more slot after left pivot pivot (sy.Insert n) flat_insertion h (n, refl, refl) (desc_trees slot left pivot d)
    part_trees s l k r (joined rule pivot slot left right after mark e f h) =
        let t = end_tree rule pivot right f in
        covers_more slot after left pivot right (sy.Rule rule mark) t.0 h (t.1 mark) (edge_trees rule pivot slot left e)

  called_next : (s after l : ℕ) (x : Sym) → HasNext plan s after x → IsCalledFor plan s l → IsCalledFor plan after l
  called_next s after l x h c = (h.0, h.1, h.2 + 1, h.5, subst (λ (z : ℕ). Called plan z l) (same_slot plan s c.0 c.1 c.2 h.0 h.1 h.2 c.3 h.4).0 c.4)

  mutual
    pub desc_called : (s l p : ℕ) → Desc plan s l p → IsCalledFor plan s l
    desc_called s l p (begun rule at slot c f) = (rule, f.0, 0, f.2, c)
    desc_called s l p (arrived slot left pivot right h) = part_called slot left pivot right h

    edge_called : (r p s l : ℕ) → Edge plan r p s l → IsCalledFor plan s l
    edge_called r p s l (waiting slot left at after rule mark d h) = desc_called slot left at d

    pub part_called : (s l k r : ℕ) → Part plan s l k r → IsCalledFor plan s l
    part_called s l k r (empty rule at slot c f g) = (rule, f.0, 0, f.2, c)
    part_called s l k r (scanned slot left pivot after right x d h t) = called_next slot after left x h (desc_called slot left pivot d)
    part_called s l k r (inserted slot left pivot after n d h) = called_next slot after left (sy.Insert n) h (desc_called slot left pivot d)
    part_called s l k r (joined rule pivot slot left right after mark e f h) = called_next slot after left (sy.Rule rule mark) h (edge_called rule pivot slot left e)

  pub end_called : (q l e : ℕ) → End plan q l e → Called plan q l
  end_called q l e (ended slot left right rule d h) =
      let c = desc_called slot left right d in
      subst (λ (z : ℕ). Called plan z left) (same_slot plan slot c.0 c.1 c.2 rule h.0 (length h.1) c.3 h.2).0 c.4

  -- a subtree behind a symbol: the trees before it, and the tree of the symbol
  pub part_split : (s after l k p r a dot : ℕ) (syms : List Sym) (x : Sym) → Part plan after l k p → HasNext plan s after x → IsSlot plan s r a dot → IsLine plan r a syms →
      (ds : FlatTrees) × (d : FlatTree) × (flat_count ds ≡ dot) × FlatDerivesFirst plan ds syms l k × FlatDerives plan d x k p
  part_split s after l k p r a dot syms x h n at line = go (part_trees after l k p h)
    where
      m : IsSlot plan after r a (dot + 1) × (slice_get syms dot ≡ Some x)
      m = next_at plan s after r a dot syms x n at line

      go : (ds : FlatTrees) × Covers plan after ds l p × IsLastFrom plan ds after l k p → (ds : FlatTrees) × (d : FlatTree) × (flat_count ds ≡ dot) × FlatDerivesFirst plan ds syms l k × FlatDerives plan d x k p
      go (no_flat, c, t) = absurd (omega (arith, (same_slot plan after c.0 c.1 0 r a (dot + 1) c.3 m.0).2))
      go (flats_and ds d, c, t) =
          let e = same_slot plan after c.0 c.1 (flat_count ds + 1) r a (dot + 1) c.3 m.0 in
          let n : flat_count ds ≡ dot = omega (arith, e.2) in
          let u : c.2 ≡ syms = same_line plan r a c.2 syms (line_by plan c.0 r c.1 a c.2 e.0 e.1 c.4) line in
          let v : c.5.0 ≡ k = omega (arith, width_is plan d c.5.1 c.5.0 p c.5.4, t) in
          let y : c.5.1 ≡ x = cc (c.5.3, m.1, u, n) in
          (ds, d, n, subst (λ (z : ℕ). FlatDerivesFirst plan ds syms l z) v (subst (λ (z : List Sym). FlatDerivesFirst plan ds z l c.5.0) u c.5.2), subst (λ (z : ℕ). FlatDerives plan d x z p) v (subst (λ (z : Sym). FlatDerives plan d z c.5.0 p) y c.5.4))
