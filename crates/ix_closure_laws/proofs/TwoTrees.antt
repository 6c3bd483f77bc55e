-- Two derivations exist exactly where some span has two ways.
use Rattle.std.proofs.Common.{◌≡◌, ◌≢◌, refl, ap, sym, subst, ◌∙◌, ◌⊎◌, ◌+◌, ◌<◌, ℕ, List, length, Option, None, arith}
use mathlib.Core.Logic.{inl, inr}
use Rattle.ix_model.specs.declared.grammar.Mark.{Mark}
use Rattle.ix_model.specs.declared.rules.Sym.{Sym}
use Rattle.ix_model.specs.declared.rules.Sym.TheVariants as sy
use Rattle.ix_model.specs.Expansion.Parts.{Parts}
use Rattle.ix_model.specs.Expansion.Planned.{IsPlanned}
use Rattle.ix_model.specs.Expansion.Slots.{IsSlot}
use Rattle.ix_model.specs.Expansion.FlatTrees.{FlatTree, flat_text, flat_insertion, flat_node, FlatTrees, no_flat, flats_and, flat_count}
use Rattle.ix_model.specs.Expansion.FlatDerives.{FlatDerives, FlatDerivesFirst, IsLine}
use Rattle.ix_model.specs.Expansion.SlotPlaces.{HasNext, IsLastSlot}
use Rattle.ix_model.specs.Closure.Closed.{Called, Part}
use Rattle.ix_closure_laws.specs.ClosedLaws.{IsLastFrom}
use Rattle.ix_model.specs.Closure.Useful.{sub_at}
use Rattle.ix_closure_laws.specs.Reached.{RuleReached, root, as_child, SubReached, as_last, as_prefix}
use Rattle.ix_closure_laws.specs.TwoWays.{HasTwoWays, FlatAmbiguous}
use Rattle.ix_model.proofs.Slots.{one_slot}
use Rattle.ix_model.proofs.SlotPlaces.{same_slot, same_line, SlotBefore, before_of, next_not_last}
use Rattle.ix_closure_laws.proofs.ClosedTrees.{whole_tree, part_trees}
use Rattle.ix_closure_laws.proofs.TreesClosed.{trees_closed, symbol_closed, Node, node_closed}
use Rattle.ix_closure_laws.proofs.Reaching.{reached_part, rule_called, useful_reached}
use Rattle.ix_closure_laws.proofs.Frames.{useful_of, rule_frame, reached_frame}

equal_or_not : (n m : ℕ) → (n ≡ m) ⊎ ((n < m) ⊎ (m < n))
equal_or_not n m = grind arith

module _ (plan : Parts) (planned : IsPlanned plan) where
  -- ---- two different trees: two ways

  alts_differ : (q a b l p : ℕ) (ds es : FlatTrees) → RuleReached plan q l p → a ≢ b → Node plan planned q a l p ds → Node plan planned q b l p es → HasTwoWays plan
  alts_differ q a b l p ds es w n x y = inl (
    q,
    l,
    p,
    x.last,
    y.last,
    x.pivot,
    y.pivot,
    (λ e. n (same_slot plan y.last q a (flat_count ds) q b (flat_count es) (subst (λ (z : ℕ). IsSlot plan z q a (flat_count ds)) e x.at) y.at).1),
    x.is_last,
    y.is_last,
    useful_of plan planned x.last l x.pivot p (as_last q x.last l x.pivot p w x.is_last x.part),
    useful_of plan planned y.last l y.pivot p (as_last q y.last l y.pivot p w y.is_last y.part),
  )

  pivots_differ : (s l p k m : ℕ) → k ≢ m → SubReached plan s l k p → SubReached plan s l m p → HasTwoWays plan
  pivots_differ s l p k m n x y = inr (s, l, p, k, m, n, useful_of plan planned s l k p x, useful_of plan planned s l m p y)

  nodes : (r a q b l p : ℕ) (ds es : FlatTrees) (x : Sym) → FlatDerives plan (flat_node r a ds) x l p → FlatDerives plan (flat_node q b es) x l p → ((v : ℕ) (m : Option Mark) → x ≡ sy.Rule v m → RuleReached plan v l p) →
      ((s : ℕ) (syms : List Sym) → IsLine plan r a syms → IsSlot plan s r a (flat_count ds) → flat_count ds ≡ flat_count es → Called plan r l → FlatDerivesFirst plan ds syms l p → FlatDerivesFirst plan es syms l p →
      ((k : ℕ) → Part plan s l k p → SubReached plan s l k p) → (ds ≡ es) ⊎ HasTwoWays plan) → (flat_node r a ds ≡ flat_node q b es) ⊎ HasTwoWays plan
  nodes r a q b l p ds es x h k wanted rest = go (equal_or_not a b)
    where
      e : q ≡ r
      e = cc (h.1, k.1)

      w : RuleReached plan r l p
      w = wanted r h.0 h.1

      line : IsLine plan r b k.2
      line = subst (λ (z : ℕ). IsLine plan z b k.2) e k.3

      m : Node plan planned r a l p ds
      m = node_closed plan planned r a l p ds h.0 (h.0, refl, h.2, h.3, h.4, h.5) (rule_called plan planned r l p w)

      n : Node plan planned r b l p es
      n = node_closed plan planned r b l p es k.0 (k.0, refl, k.2, line, k.4, k.5) (rule_called plan planned r l p w)

      same : a ≡ b → (ds ≡ es) ⊎ HasTwoWays plan → (flat_node r a ds ≡ flat_node q b es) ⊎ HasTwoWays plan
      same f (inl g) = inl (cc (e, f, g))
      same f (inr g) = inr g

      go : (a ≡ b) ⊎ ((a < b) ⊎ (b < a)) → (flat_node r a ds ≡ flat_node q b es) ⊎ HasTwoWays plan
      go (inl f) =
          let g : k.2 ≡ h.2 = same_line plan r a k.2 h.2 (subst (λ (z : ℕ). IsLine plan r z k.2) (sym f) line) h.3 in
          same f (rest m.last h.2 h.3 m.at (h.4 ∙ ap length (sym g) ∙ sym k.4) (rule_called plan planned r l p w) h.5 (subst (λ (z : List Sym). FlatDerivesFirst plan es z l p) g k.5) (λ j part. as_last r m.last l j p w m.is_last part))
      go (inr (inl f)) = inr (alts_differ r a b l p ds es w (λ g. omega (arith, f, g)) m n)
      go (inr (inr f)) = inr (alts_differ r a b l p ds es w (λ g. omega (arith, f, g)) m n)

  lists : (ds es : FlatTrees) (d e : FlatTree) (s r a : ℕ) (syms : List Sym) (l p : ℕ) → IsLine plan r a syms → IsSlot plan s r a (flat_count ds + 1) → flat_count ds ≡ flat_count es → Called plan r l →
      FlatDerivesFirst plan (flats_and ds d) syms l p → FlatDerivesFirst plan (flats_and es e) syms l p → ((k : ℕ) → Part plan s l k p → SubReached plan s l k p) →
      ((x : Sym) (m : ℕ) → FlatDerives plan d x m p → FlatDerives plan e x m p → ((q : ℕ) (mark : Option Mark) → x ≡ sy.Rule q mark → RuleReached plan q m p) → (d ≡ e) ⊎ HasTwoWays plan) →
      ((v m : ℕ) → IsSlot plan v r a (flat_count ds) → FlatDerivesFirst plan ds syms l m → FlatDerivesFirst plan es syms l m → ((k : ℕ) → Part plan v l k m → SubReached plan v l k m) → (ds ≡ es) ⊎ HasTwoWays plan) →
      (flats_and ds d ≡ flats_and es e) ⊎ HasTwoWays plan
  lists ds es d e s r a syms l p line at n c h k all child before = go (equal_or_not h.0 k.0)
    where
      v : SlotBefore plan planned s r a (flat_count ds) h.1
      v = before_of plan planned s r a (flat_count ds) syms h.1 line at h.3

      part : SubReached plan s l h.0 p
      part = all h.0 (symbol_closed plan planned d v.slot s l h.0 p h.1 (trees_closed plan planned ds v.slot r a syms l h.0 line v.at c h.2) v.next h.4)

      o : SlotBefore plan planned s r a (flat_count es) k.1
      o = before_of plan planned s r a (flat_count es) syms k.1 line (subst (λ (z : ℕ). IsSlot plan s r a (z + 1)) n at) k.3

      other : SubReached plan s l k.0 p
      other = all k.0 (symbol_closed plan planned e o.slot s l k.0 p k.1 (trees_closed plan planned es o.slot r a syms l k.0 line o.at c k.2) o.next k.4)

      both : (d ≡ e) ⊎ HasTwoWays plan → (ds ≡ es) ⊎ HasTwoWays plan → (flats_and ds d ≡ flats_and es e) ⊎ HasTwoWays plan
      both (inr f) g = inr f
      both (inl f) (inr g) = inr g
      both (inl f) (inl g) = inl (cc (f, g))

      go : (h.0 ≡ k.0) ⊎ ((h.0 < k.0) ⊎ (k.0 < h.0)) → (flats_and ds d ≡ flats_and es e) ⊎ HasTwoWays plan
      go (inl f) =
          let y : k.1 ≡ h.1 = cc (h.3, k.3, n) in
          let derived : FlatDerives plan e h.1 h.0 p = subst (λ (z : ℕ). FlatDerives plan e h.1 z p) (sym f) (subst (λ (z : Sym). FlatDerives plan e z k.0 p) y k.4) in
          both (child h.1 h.0 h.4 derived (λ q mark g. as_child v.slot s l h.0 p q mark part (subst (λ (z : Sym). HasNext plan v.slot s z) g v.next)))
          (before v.slot h.0 v.at h.2 (subst (λ (z : ℕ). FlatDerivesFirst plan es syms l z) (sym f) k.2) (λ j m. as_prefix v.slot s l j h.0 p h.1 part v.next m))
      go (inr (inl f)) = inr (pivots_differ s l p h.0 k.0 (λ g. omega (arith, f, g)) part other)
      go (inr (inr f)) = inr (pivots_differ s l p h.0 k.0 (λ g. omega (arith, f, g)) part other)

  mutual
    pub same_or_two : (d e : FlatTree) (x : Sym) (l p : ℕ) → FlatDerives plan d x l p → FlatDerives plan e x l p → ((q : ℕ) (m : Option Mark) → x ≡ sy.Rule q m → RuleReached plan q l p) → (d ≡ e) ⊎ HasTwoWays plan
    same_or_two (flat_text a b) (flat_text i j) x l p h k w = inl (cc (h.0, h.1, k.0, k.1))
    same_or_two flat_insertion flat_insertion x l p h k w = inl refl
    same_or_two (flat_node r a ds) (flat_node q b es) x l p h k w = nodes r a q b l p ds es x h k w (λ s syms line at n c f g all. all_same_or_two ds es s r a syms l p line at n c f g all)
    same_or_two (flat_text a b) flat_insertion x l p h k w = absurd (cc (h.2.3, k.1))
    same_or_two (flat_text a b) (flat_node q c es) x l p h k w = absurd (cc (h.2.3, k.1))
    same_or_two flat_insertion (flat_text a b) x l p h k w = absurd (cc (k.2.3, h.1))
    same_or_two flat_insertion (flat_node q c es) x l p h k w = absurd (cc (h.1, k.1))
    same_or_two (flat_node q c es) (flat_text a b) x l p h k w = absurd (cc (k.2.3, h.1))
    same_or_two (flat_node q c es) flat_insertion x l p h k w = absurd (cc (h.1, k.1))

    pub all_same_or_two : (ds es : FlatTrees) (s r a : ℕ) (syms : List Sym) (l p : ℕ) → IsLine plan r a syms → IsSlot plan s r a (flat_count ds) → flat_count ds ≡ flat_count es → Called plan r l → FlatDerivesFirst plan ds syms l p → FlatDerivesFirst plan es syms l p →
        ((k : ℕ) → Part plan s l k p → SubReached plan s l k p) → (ds ≡ es) ⊎ HasTwoWays plan
    all_same_or_two no_flat no_flat s r a syms l p line at n c h k all = inl refl
    all_same_or_two no_flat (flats_and es e) s r a syms l p line at n c h k all = absurd (omega (arith, n))
    all_same_or_two (flats_and ds d) no_flat s r a syms l p line at n c h k all = absurd (omega (arith, n))
    all_same_or_two (flats_and ds d) (flats_and es e) s r a syms l p line at n c h k all =
        lists ds es d e s r a syms l p line at (omega (arith, n)) c h k all (λ x m f g w. same_or_two d e x m p f g w)
        (λ v m there f g more. all_same_or_two ds es v r a syms l m line there (omega (arith, n)) c f g more)

  -- two derivations of the text
  pub ambiguous_ways : FlatAmbiguous plan → HasTwoWays plan
  ambiguous_ways h = go (same_or_two h.0 h.1 (sy.Rule 0 None) 0 (length plan.text) h.2 h.3 (λ q m e. subst (λ (z : ℕ). RuleReached plan z 0 (length plan.text)) (cc e) root))
    where
      go : (h.0 ≡ h.1) ⊎ HasTwoWays plan → HasTwoWays plan
      go (inl e) = absurd (h.4 e)
      go (inr w) = w

  -- ---- two ways: two different trees

  -- the last slot of a rule is reached through the rule
  last_reached : (s l k p q : ℕ) → IsLastSlot plan s q → SubReached plan s l k p → RuleReached plan q l p
  last_reached s l k p q n (as_last rule slot left pivot right w m part) = subst (λ (z : ℕ). RuleReached plan z l p) (same_slot plan s rule m.0 (length m.1) q n.0 (length n.1) m.2 n.2).0 w
  last_reached s l k p q n (as_prefix slot after left first pivot right x h m part) = absurd (next_not_last plan s after q x m n)

  alternatives_differ : (q l p s t k m : ℕ) → s ≢ t → IsLastSlot plan s q → IsLastSlot plan t q → SubReached plan s l k p → SubReached plan t l m p → FlatAmbiguous plan
  alternatives_differ q l p s t k m n a b x y =
      let f = rule_frame plan planned q l p (last_reached s l k p q a x) in
      let ds = part_trees plan s l k p (reached_part plan planned s l k p x) in
      let es = part_trees plan t l m p (reached_part plan planned t l m p y) in (
        f.fill (flat_node q a.0 ds.0),
        f.fill (flat_node q b.0 es.0),
        f.derives (flat_node q a.0 ds.0) None (whole_tree plan s q l p ds.0 None a ds.1),
        f.derives (flat_node q b.0 es.0) None (whole_tree plan t q l p es.0 None b es.1),
        λ e. n (same (cc (f.one_way (flat_node q a.0 ds.0) (flat_node q b.0 es.0) e))),
      )
    where
      same : a.0 ≡ b.0 → s ≡ t
      same e =
          let g : IsLine plan q b.0 a.1 = subst (λ (z : ℕ). IsLine plan q z a.1) e a.3 in
          one_slot plan planned s t q b.0 (length b.1) (a.2 ∙ cc (e, same_line plan q b.0 a.1 b.1 g b.3)) b.2

  split_once : (s l p k m : ℕ) (ds : FlatTrees) → IsLastFrom plan ds s l k p → IsLastFrom plan ds s l m p → k ≡ m
  split_once s l p k m no_flat h j = h.0 ∙ sym j.0
  split_once s l p k m (flats_and ds d) h j = omega (arith, h, j)

  pivots_split : (s l p k m : ℕ) → k ≢ m → SubReached plan s l k p → SubReached plan s l m p → FlatAmbiguous plan
  pivots_split s l p k m n x y =
      let f = reached_frame plan planned s l k p x in
      let ds = part_trees plan s l k p (reached_part plan planned s l k p x) in
      let es = part_trees plan s l m p (reached_part plan planned s l m p y) in (
        f.fill ds.0,
        f.fill es.0,
        f.derives ds.0 ds.1,
        f.derives es.0 es.1,
        λ e. n (split_once s l p k m ds.0 ds.2 (subst (λ (z : FlatTrees). IsLastFrom plan z s l m p) (sym (f.one_way ds.0 es.0 e)) es.2)),
      )

  pub ways_ambiguous : HasTwoWays plan → FlatAmbiguous plan
  ways_ambiguous (inl h) = alternatives_differ h.0 h.1 h.2 h.3 h.4 h.5 h.6 h.7 h.8 h.9 (useful_reached plan planned (sub_at h.3 h.1 h.5 h.2) h.10) (useful_reached plan planned (sub_at h.4 h.1 h.6 h.2) h.11)
  ways_ambiguous (inr h) = pivots_split h.0 h.1 h.2 h.3 h.4 h.5 (useful_reached plan planned (sub_at h.0 h.1 h.3 h.2) h.6) (useful_reached plan planned (sub_at h.0 h.1 h.4 h.2) h.7)
