-- The first tree of a helper over a span, from the first trees of its alternatives.
use Rattle.std.proofs.Common.{◌≡◌, refl, sym, ap, subst, ◌∙◌, ◌⊎◌, ◌+◌, ◌<◌, ◌≤◌, ℕ, List, [], ◌∷◌, length, arith, slice_get, Some, Option}
use Rattle.std.proofs.lemmas.Bool.{cases_order}
use mathlib.Core.Logic.{inl, inr}
use Rattle.ix_model.specs.declared.grammar.Mark.{Mark}
use Rattle.ix_model.specs.declared.rules.Sym.{Sym}
use Rattle.ix_model.specs.declared.rules.Sym.TheVariants as sy
use Rattle.ix_model.specs.Expansion.Parts.{Parts}
use Rattle.ix_model.specs.Expansion.Numbered.{kind_at}
use Rattle.ix_model.specs.Expansion.FlatTrees.{FlatTree, flat_text, flat_insertion, flat_node, FlatTrees, no_flat, flats_and, flat_count, flat_width}
use Rattle.ix_model.specs.Expansion.FlatDerives.{FlatDerives, FlatDerivesFirst, IsLine}
use Rattle.ix_model.specs.Expansion.FlatHeights.{flat_height, flat_heights}
use Rattle.ix_model.specs.Expansion.FlatOrder.{FlatBefore}
use Rattle.ix_model.proofs.SlotPlaces.{same_line}
use Rattle.ix_closure_laws.proofs.FlatWidths.{width_is, widths_are}
use Rattle.ix_tree_laws.proofs.Found.{InSomeOrder}
use Rattle.ix_first_laws.specs.Nested.{IsNested}
use Rattle.ix_first_laws.proofs.Chains.{Chain, first_end, shorter_first}
use Rattle.ix_first_laws.proofs.Lines.{line_within, one_of_two}
use Rattle.ix_first_laws.proofs.NodeKinds.{Helper, raised_helper, AltBefore, NodeOrSame, helper_or_same}
use Rattle.ix_first_laws.proofs.Symbols.{FoundTree}
use Rattle.ix_first_laws.proofs.Nodes.{IsNode, node_derives, by_node}
use Rattle.ix_first_laws.proofs.Alternatives.{Self, Nth, Late, to_chain, from_chain, ends_before, NoAlt, LeastAlt, by_alt}

module _ (plan : Parts) (nested : IsNested plan.rules) (b r i J : ℕ) (helper : Helper (kind_at plan.rules r)) where
  low : (c : ℕ) (es : FlatTrees) → flat_height plan.rules (flat_node r c es) ≤ b → flat_heights plan.rules es ≤ b
  low c es h = omega (arith, h, raised_helper (kind_at plan.rules r) (flat_heights plan.rules es) helper)

  some_length : (xs : List Sym) (x : Sym) → slice_get xs 0 ≡ Some x → 0 < length xs
  some_length [] x e = absurd (cc e)
  some_length (y ∷ ys) x e = omega arith

  -- ---- where no alternative has such trees, no tree has the span: a list that is late holds a shorter one over the same span

  none_alt : ((a : ℕ) → NoAlt plan b r i J a) → (c : ℕ) (syms : List Sym) → IsLine plan r c syms → (es : FlatTrees) → flat_count es ≡ length syms →
      Chain plan.rules (Nth plan b r syms J) es i J ⊎ Late plan b r syms J c es i → (Late plan b r syms J c es i → ⊥) → ⊥
  none_alt none c syms line es count (inl h) f = none c es (record { syms = syms; line = line; all = h; count = count })
  none_alt none c syms line es count (inr h) f = f h

  mutual
    none_tree : ((a : ℕ) → NoAlt plan b r i J a) → (e : FlatTree) (x : Sym) (m : Option Mark) → x ≡ sy.Rule r m → FlatDerives plan e x i J → flat_height plan.rules e ≤ b → ⊥
    none_tree none (flat_text y z) x m is h high = cc (is, h.2.3)
    none_tree none flat_insertion x m is h high = cc (is, h.1)
    none_tree none (flat_node q c es) x m is h high =
        let e : q ≡ r = cc (is, h.1) in
        let line : IsLine plan r c h.2 = subst (λ (z : ℕ). IsLine plan z c h.2) e h.3 in
        let under : flat_heights plan.rules es ≤ b = low c es (subst (λ (z : ℕ). flat_height plan.rules (flat_node z c es) ≤ b) e high) in
        none_alt none c h.2 line es h.4 (to_chain plan nested b r c h.2 line J es i J (omega arith) h.5 under)
        (λ l. none_first none es h.2 J l.2.0 h.5 under l.2.1 l.2.2 l.3 (omega (arith, h.4, some_length h.2 l.2.0 l.2.1)))

    none_first : ((a : ℕ) → NoAlt plan b r i J a) → (es : FlatTrees) (syms : List Sym) (j : ℕ) (x : Sym) → FlatDerivesFirst plan es syms i j → flat_heights plan.rules es ≤ b →
        slice_get syms 0 ≡ Some x → Self plan r x → first_end plan.rules es i ≡ J → 0 < flat_count es → ⊥
    none_first none no_flat syms j x h high at s end q = omega (arith, q)
    none_first none (flats_and no_flat d) syms j x (k, y, e, at', h) high at s end q =
        let same : y ≡ x = cc (at, at') in
        let w : k + flat_width d ≡ j = width_is plan d y k j h in
        let to : j ≡ J = omega (arith, w, e, end) in
        none_tree none d y s.1 (same ∙ s.2 ∙ ap (λ (z : ℕ). sy.Rule z s.1) s.3) (subst (λ (z : ℕ). FlatDerives plan d y z J) (sym e) (subst (λ (z : ℕ). FlatDerives plan d y k z) to h)) (omega (arith, high))
    none_first none (flats_and (flats_and ds e) d) syms j x (k, y, a, at', h) high at s end q =
        none_first none (flats_and ds e) syms k x a (omega (arith, high)) at s end (omega arith)

  -- ---- the first tree

  module _ (m : Option Mark) where
    pub helper_found : LeastAlt plan b r i J → FoundTree plan b (sy.Rule r m) i J
    helper_found (inr none) = inr (λ e h. none_tree all e (sy.Rule r m) m refl h.0 h.1)
      where
        all : (a : ℕ) → NoAlt plan b r i J a
        all a ds h = none a (line_within plan r a h.syms h.line) ds h
    helper_found (inl (a, _, (ds, x), less)) =
        inl (
          flat_node r a ds,
          record {
            holds = (node_derives plan r i J m a ds mine, omega (arith, first.1, raised_helper (kind_at plan.rules r) (flat_heights plan.rules ds) helper));
            before = λ z h. by_node plan r i J (λ y. flat_height plan.rules y ≤ b → (y ≡ flat_node r a ds) ⊎ FlatBefore plan.rules (flat_node r a ds) y J) others z m h.0 h.1;
          },
        )
      where
        first : FlatDerivesFirst plan ds x.holds.syms i J × (flat_heights plan.rules ds ≤ b)
        first = from_chain plan b r x.holds.syms J ds i J x.holds.all

        mine : IsNode plan r i J a ds
        mine = record { syms = x.holds.syms; line = x.holds.line; count = x.holds.count; trees = first.0 }

        -- it is before a tree that is late, since its own first tree is shorter
        later : (c : ℕ) (es : FlatTrees) (n : IsNode plan r i J c es) → Late plan b r n.syms J c es i → AltBefore plan.rules r a ds J c es
        later c es n l = by_number (cases_order a c)
          where
            by_number : InSomeOrder a c → AltBefore plan.rules r a ds J c es
            by_number (inr (inl k)) = inl k
            by_number (inr (inr k)) = absurd (omega (arith, k, l.0, one_of_two plan nested r a mine.syms l.1 mine.line))
            by_number (inl k) =
                let same : mine.syms ≡ n.syms = same_line plan r a mine.syms n.syms mine.line (subst (λ (z : ℕ). IsLine plan r z n.syms) (sym k) n.line) in
                let at : slice_get mine.syms 0 ≡ Some l.2.0 = subst (λ z. slice_get z 0 ≡ Some l.2.0) (sym same) l.2.1 in
                let some : 0 < flat_count ds = omega (arith, mine.count, some_length mine.syms l.2.0 at) in
                let counts : flat_count ds ≡ flat_count es = omega (arith, mine.count, n.count, ap length same) in
                inr (k, shorter_first plan.rules ds es i J counts (widths_are plan ds mine.syms i J mine.trees) (widths_are plan es n.syms i J n.trees) (ends_before plan b r mine.syms J ds i J l.2.0 at l.2.2 x.holds.all some) l.3)

        settled : (c : ℕ) (es : FlatTrees) (n : IsNode plan r i J c es) → Chain plan.rules (Nth plan b r n.syms J) es i J ⊎ Late plan b r n.syms J c es i → NodeOrSame plan.rules r a ds J c es
        settled c es n (inl k) = helper_or_same plan.rules r a ds J helper c es (by_alt plan b r i J a c ds es x less (record { syms = n.syms; line = n.line; all = k; count = n.count }))
        settled c es n (inr k) = helper_or_same plan.rules r a ds J helper c es (inr (later c es n k))

        others : (c : ℕ) (es : FlatTrees) → IsNode plan r i J c es → flat_height plan.rules (flat_node r c es) ≤ b → NodeOrSame plan.rules r a ds J c es
        others c es n high = settled c es n (to_chain plan nested b r c n.syms n.line J es i J (omega arith) n.trees (low c es high))
