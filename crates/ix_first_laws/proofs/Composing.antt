-- The first tree from its choices: first trees of a sequence by the least start of the last one, a node by its least alternative.
use Rattle.std.proofs.Common.{◌≡◌, refl, sym, subst, ◌⊎◌, ◌<◌, ◌≤◌, ℕ, suc, List, length, arith, slice_get, Some, Option}
use mathlib.Core.Logic.{inl, inr}
use Rattle.ix_model.specs.declared.grammar.Mark.{Mark}
use Rattle.ix_model.specs.declared.rules.Kind.TheVariants as kind
use Rattle.ix_model.specs.declared.rules.Sym.{Sym}
use Rattle.ix_model.specs.declared.rules.Sym.TheVariants as sy
use Rattle.ix_model.specs.Expansion.Parts.{Parts}
use Rattle.ix_model.specs.Expansion.Numbered.{kind_at, lines_at, syms_at}
use Rattle.ix_model.specs.Expansion.FlatTrees.{FlatTree, flat_node, FlatTrees, no_flat, flats_and, flat_count}
use Rattle.ix_model.specs.Expansion.FlatDerives.{FlatDerives, FlatDerivesFirst}
use Rattle.ix_model.specs.Expansion.FlatHeights.{flat_height, flat_heights}
use Rattle.ix_model.specs.Expansion.FlatOrder.{FlatBefore, FlatsBefore}
use Rattle.ix_model.proofs.Decide.{Answered}
use Rattle.ix_closure_laws.proofs.FlatWidths.{width_is}
use Rattle.ix_first_laws.specs.Bounded.{TreeWithin, TreesWithin, IsBestTree, IsBestTrees}
use Rattle.ix_first_laws.specs.Least.{AltWithin}
use Rattle.ix_first_laws.proofs.Chains.{pair_first}
use Rattle.ix_first_laws.proofs.Lines.{line_syms, line_is}
use Rattle.ix_first_laws.proofs.Nodes.{IsNode, node_derives, by_node}
use Rattle.ix_first_laws.proofs.NodeKinds.{Helper, raised_helper, raised_named, AltBefore, first_or_same, NodeOrSame, helper_or_same, named_or_same, lower_named}

module _ (plan : Parts) (b : ℕ) where
  -- ---- sequences

  module _ (syms : List Sym) where
    pub nothing_yet : (i j : ℕ) → i ≡ j → IsBestTrees plan b syms 0 i j no_flat
    nothing_yet i j e = record { within = (e, refl, omega arith); before = others }
      where
        others : (es : FlatTrees) → TreesWithin plan b syms 0 i j es → (es ≡ no_flat) ⊎ FlatsBefore plan.rules no_flat es j
        others no_flat h = inl refl
        others (flats_and es e) h = absurd (omega (arith, h.1))

    -- one more tree, where the last one starts at the least number that fits
    pub longer : (n : ℕ) (x : Sym) (i j k : ℕ) (ds : FlatTrees) (d : FlatTree) → slice_get syms n ≡ Some x → IsBestTrees plan b syms n i k ds → IsBestTree plan b x k j d →
        ((l : ℕ) (es : FlatTrees) (e : FlatTree) → l < k → TreesWithin plan b syms n i l es → TreeWithin plan b x l j e → ⊥) → IsBestTrees plan b syms (suc n) i j (flats_and ds d)
    longer n x i j k ds d at y z least = record {
      within = ((k, x, y.within.0, subst (λ (m : ℕ). slice_get syms m ≡ Some x) (sym y.within.1) at, z.within.0), omega (arith, y.within.1), omega (arith, y.within.2, z.within.1));
      before = others;
    }
      where
        others : (es : FlatTrees) → TreesWithin plan b syms (suc n) i j es → (es ≡ flats_and ds d) ⊎ FlatsBefore plan.rules (flats_and ds d) es j
        others no_flat h = absurd (omega (arith, h.1))
        others (flats_and es e) ((l, x', a, at', c), count, high) =
            let m : flat_count es ≡ n = omega (arith, count) in
            let q : x' ≡ x = cc (m, at, at') in
            let c' : FlatDerives plan e x l j = subst (λ z. FlatDerives plan e z l j) q c in
            let ha : flat_heights plan.rules es ≤ b = omega (arith, high) in
            let hc : flat_height plan.rules e ≤ b = omega (arith, high) in
            pair_first plan.rules ds es d e k l j (width_is plan d x k j z.within.0) (width_is plan e x l j c') (λ h. least l es e h (a, m, ha) (c', hc))
            (λ h. y.before es (subst (λ (z : ℕ). FlatDerivesFirst plan es syms i z) h a, m, ha))
            (λ h. z.before e (subst (λ (z : ℕ). FlatDerives plan e x z j) h c', hc))

  -- ---- nodes of alternative a of rule r, where no earlier alternative fits the bound

  module _ (r i j a : ℕ) (ds : FlatTrees) (inside : a < length (lines_at plan.rules r)) (first : IsBestTrees plan b (syms_at plan.rules r a) (length (syms_at plan.rules r a)) i j ds)
      (early : (c : ℕ) (es : FlatTrees) → c < a → AltWithin plan b r i j c es → ⊥) (m : Option Mark) where
    by_line : (c : ℕ) (es : FlatTrees) → IsNode plan r i j c es → flat_heights plan.rules es ≤ b → ((a ≡ c) × (es ≡ ds)) ⊎ AltBefore plan.rules r a ds j c es
    by_line c es n high = first_or_same plan.rules r a ds j c es (λ k. early c es k at) (λ k. first.before es (subst (λ (z : ℕ). AltWithin plan b r i j z es) (sym k) at))
      where
        at : AltWithin plan b r i j c es
        at = subst (λ z. TreesWithin plan b z (length z) i j es) (sym (line_syms plan r c n.syms n.line)) (n.trees, n.count, high)

    mine : IsNode plan r i j a ds
    mine = record { syms = syms_at plan.rules r a; line = line_is plan r a inside; count = first.within.1; trees = first.within.0 }

    -- where no node is before it, it is the first tree within the bound
    node_is_best : (high : ℕ) → flat_height plan.rules (flat_node r a ds) ≤ high → ((c : ℕ) (es : FlatTrees) → IsNode plan r i j c es → flat_height plan.rules (flat_node r c es) ≤ high → NodeOrSame plan.rules r a ds j c es) →
        IsBestTree plan high (sy.Rule r m) i j (flat_node r a ds)
    node_is_best high under others = record {
      within = (node_derives plan r i j m a ds mine, under);
      before = λ z h. by_node plan r i j (λ y. flat_height plan.rules y ≤ high → (y ≡ flat_node r a ds) ⊎ FlatBefore plan.rules (flat_node r a ds) y j) others z m h.0 h.1;
    }

    -- a helper is no higher than its trees
    pub helper_node : Helper (kind_at plan.rules r) → IsBestTree plan b (sy.Rule r m) i j (flat_node r a ds)
    helper_node helper =
        node_is_best b (omega (arith, first.within.2, raised_helper (kind_at plan.rules r) (flat_heights plan.rules ds) helper))
        (λ c es n high. helper_or_same plan.rules r a ds j helper c es (by_line c es n (omega (arith, high, raised_helper (kind_at plan.rules r) (flat_heights plan.rules es) helper))))

    -- a named rule under every greater bound, where all its trees over the span have b below at least
    pub named_node : (high : ℕ) → b < high → kind_at plan.rules r ≡ kind.Named → ((c : ℕ) (es : FlatTrees) → FlatDerives plan (flat_node r c es) (sy.Rule r m) i j → b ≤ flat_heights plan.rules es) →
        IsBestTree plan high (sy.Rule r m) i j (flat_node r a ds)
    named_node high over named least =
        node_is_best high (omega (arith, over, first.within.2, raised_named (kind_at plan.rules r) (flat_heights plan.rules ds) named))
        (λ c es n _. by_height c es n (least c es (node_derives plan r i j m c es n)) (grind arith))
      where
        full : flat_heights plan.rules ds ≡ b
        full = omega (arith, first.within.2, least a ds (node_derives plan r i j m a ds mine))

        by_height : (c : ℕ) (es : FlatTrees) → IsNode plan r i j c es → b ≤ flat_heights plan.rules es → Answered (flat_heights plan.rules es ≤ b) → NodeOrSame plan.rules r a ds j c es
        by_height c es n more (inl k) = named_or_same plan.rules r a ds j named c es (omega (arith, full, more, k)) (by_line c es n k)
        by_height c es n more (inr k) = lower_named plan.rules r a ds j named c es (grind (arith, full, more, k))
