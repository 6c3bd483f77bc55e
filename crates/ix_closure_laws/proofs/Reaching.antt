-- What stands in a derivation of the text is reached from the root.
use Rattle.std.proofs.Common.{◌≡◌, sym, subst, ◌⊎◌, ◌+◌, ◌-◌, ℕ, List, length, Option, None, arith}
use mathlib.Core.Logic.{inl, inr}
use Rattle.ix_model.specs.declared.grammar.Mark.{Mark}
use Rattle.ix_model.specs.declared.rules.Sym.{Sym}
use Rattle.ix_model.specs.declared.rules.Sym.TheVariants as sy
use Rattle.ix_model.specs.declared.sub.Sub.{Sub}
use Rattle.ix_model.specs.Expansion.Parts.{Parts}
use Rattle.ix_model.specs.Expansion.Planned.{IsPlanned}
use Rattle.ix_model.specs.Expansion.Slots.{IsSlot}
use Rattle.ix_model.specs.Expansion.FlatTrees.{FlatTree, flat_text, flat_insertion, flat_node, FlatTrees, no_flat, flats_and, flat_count, flat_width}
use Rattle.ix_model.specs.Expansion.FlatDerives.{FlatDerives, FlatDerivesFirst, IsLine}
use Rattle.ix_model.specs.Expansion.SlotPlaces.{HasNext}
use Rattle.ix_model.specs.Closure.Closed.{Called, start, by_edge, waiting, Part}
use Rattle.ix_closure_laws.specs.ClosedLaws.{Covers, IsLastFrom}
use Rattle.ix_model.specs.Closure.Useful.{IsSub, Stands, StandsAmong, Useful}
use Rattle.ix_closure_laws.specs.Reached.{RuleReached, root, as_child, SubReached, as_last, as_prefix}
use Rattle.ix_model.proofs.Slots.{one_slot}
use Rattle.ix_model.proofs.SlotPlaces.{same_slot, before_of}
use Rattle.ix_closure_laws.proofs.FlatWidths.{width_is}
use Rattle.ix_closure_laws.proofs.ClosedTrees.{part_trees}
use Rattle.ix_closure_laws.proofs.TreesClosed.{trees_closed, symbol_closed, node_closed, part_before}

module _ (plan : Parts) (planned : IsPlanned plan) where
  pub reached_part : (s l k r : ℕ) → SubReached plan s l k r → Part plan s l k r
  reached_part s l k r (as_last rule slot left pivot right w n p) = p
  reached_part s l k r (as_prefix slot after left first pivot right x h n p) = p

  pub rule_called : (q l r : ℕ) → RuleReached plan q l r → Called plan q l
  rule_called q l r root = start
  rule_called q l r (as_child slot after left pivot right rule mark h n) =
      by_edge rule pivot slot left (waiting slot left pivot after rule mark (part_before plan planned after left pivot right slot (sy.Rule rule mark) (reached_part after left pivot right h) n) n)

  abbrev IsReached : Sub → Type 0
  IsReached sub = SubReached plan sub.slot sub.left sub.pivot sub.right

  -- the subtree of an empty alternative
  empty_reached : (ds : FlatTrees) (r a l p : ℕ) (sub : Sub) (s : ℕ) → IsSlot plan s r a (flat_count ds) → l + flat_width (flat_node r a ds) ≡ p → ((k : ℕ) → Part plan s l k p → SubReached plan s l k p) → (k : ℕ) → Part plan s l k p →
      (flat_count ds ≡ 0) × IsSub plan sub r a 0 l l l → IsReached sub
  empty_reached (flats_and ds d) r a l p sub s at w all k part st = absurd (omega (arith, st.0))
  empty_reached no_flat r a l p sub s at w all k part st =
      let e : s ≡ st.1.0 = one_slot plan planned s st.1.0 r a 0 at st.1.1 in
      let t = part_trees plan s l k p part in
      let n : k ≡ l = no_last t.0 t.1 t.2 in
      let o : p ≡ l = omega (arith, w) in
      let x : SubReached plan s l l l = subst (λ (z : ℕ). SubReached plan s l l z) o (subst (λ (z : ℕ). SubReached plan s l z p) n (all k part)) in
      subst IsReached (sym st.1.2) (subst (λ (z : ℕ). SubReached plan z l l l) e x)
    where
      no_last : (es : FlatTrees) → Covers plan s es l p → IsLastFrom plan es s l k p → k ≡ l
      no_last no_flat c t = t.0
      no_last (flats_and es e) c t = absurd (omega (arith, (same_slot plan s c.0 c.1 (flat_count es + 1) r a 0 c.3 at).2))

  -- behind one symbol of an alternative
  symbol_reached : (ds : FlatTrees) (d : FlatTree) (r a l k p : ℕ) (x : Sym) (sub : Sub) (s v : ℕ) → IsSlot plan s r a (flat_count ds + 1) → HasNext plan v s x → FlatDerives plan d x k p → SubReached plan s l k p →
      ((q : ℕ) (m : Option Mark) → x ≡ sy.Rule q m → RuleReached plan q k p → Stands plan d sub k p → IsReached sub) → (((j : ℕ) → Part plan v l j k → SubReached plan v l j k) → StandsAmong plan ds sub r a l k → IsReached sub) →
      IsSub plan sub r a (flat_count ds + 1) l k p ⊎ (Stands plan d sub k p ⊎ StandsAmong plan ds sub r a l k) → IsReached sub
  symbol_reached ds d r a l k p x sub s v at n h w child before (inl st) =
      subst IsReached (sym st.2) (subst (λ (z : ℕ). SubReached plan z l k p) (one_slot plan planned s st.0 r a (flat_count ds + 1) at st.1) w)
  symbol_reached ds (flat_text i j) r a l k p x sub s v at n h w child before (inr (inl st)) = absurd st
  symbol_reached ds flat_insertion r a l k p x sub s v at n h w child before (inr (inl st)) = absurd st
  symbol_reached ds (flat_node q b es) r a l k p x sub s v at n h w child before (inr (inl st)) =
      child q h.0 h.1 (as_child v s l k p q h.0 w (subst (λ (z : Sym). HasNext plan v s z) h.1 n)) st
  symbol_reached ds d r a l k p x sub s v at n h w child before (inr (inr st)) = before (λ j part. as_prefix v s l j k p x w n part) st

  mutual
    pub tree_reached : (d : FlatTree) (q l p : ℕ) (m : Option Mark) (sub : Sub) → FlatDerives plan d (sy.Rule q m) l p → RuleReached plan q l p → Stands plan d sub l p → IsReached sub
    tree_reached (flat_text a b) q l p m sub h w st = absurd st
    tree_reached flat_insertion q l p m sub h w st = absurd st
    tree_reached (flat_node r a ds) q l p m sub h w st =
        let e : q ≡ r = cc h.1 in
        let v : RuleReached plan r l p = subst (λ (z : ℕ). RuleReached plan z l p) e w in
        let c = rule_called r l p v in
        let n = node_closed plan planned r a l p ds m (subst (λ (z : ℕ). FlatDerives plan (flat_node r a ds) (sy.Rule z m) l p) e h) c in
        let all : (k : ℕ) → Part plan n.last l k p → SubReached plan n.last l k p = λ k part. as_last r n.last l k p v n.is_last part in
        elim st [
          | inl x ↦ empty_reached ds r a l p sub n.last n.at (width_is plan (flat_node r a ds) (sy.Rule q m) l p h) all n.pivot n.part x
          | inr y ↦ among_reached ds r a l p sub n.last n.syms n.line n.at c n.trees all y
        ]

    pub among_reached : (ds : FlatTrees) (r a l p : ℕ) (sub : Sub) (s : ℕ) (syms : List Sym) → IsLine plan r a syms → IsSlot plan s r a (flat_count ds) → Called plan r l → FlatDerivesFirst plan ds syms l p →
        ((k : ℕ) → Part plan s l k p → SubReached plan s l k p) → StandsAmong plan ds sub r a l p → IsReached sub
    among_reached no_flat r a l p sub s syms line at c h all st = absurd st
    among_reached (flats_and ds d) r a l p sub s syms line at c h all st =
        let v = before_of plan planned s r a (flat_count ds) syms h.1 line at h.3 in
        let part = symbol_closed plan planned d v.slot s l h.0 p h.1 (trees_closed plan planned ds v.slot r a syms l h.0 line v.at c h.2) v.next h.4 in
        let k_is : p - flat_width d ≡ h.0 = omega (arith, width_is plan d h.1 h.0 p h.4) in
        symbol_reached ds d r a l h.0 p h.1 sub s v.slot at v.next h.4 (all h.0 part)
        (λ q m e w t. tree_reached d q h.0 p m sub (subst (λ (z : Sym). FlatDerives plan d z h.0 p) e h.4) w t)
        (λ more t. among_reached ds r a l h.0 sub v.slot syms line v.at c h.2 more t)
        (subst (λ (z : ℕ). IsSub plan sub r a (flat_count ds + 1) l z p ⊎ (Stands plan d sub z p ⊎ StandsAmong plan ds sub r a l z)) k_is st)

  pub useful_reached : (sub : Sub) → Useful plan sub → SubReached plan sub.slot sub.left sub.pivot sub.right
  useful_reached sub h = tree_reached h.0 0 0 (length plan.text) None sub h.1 root h.2
