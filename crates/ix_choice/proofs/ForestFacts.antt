-- What the lists of the set and the heights say of trees.
use Rattle.std.proofs.Common.{◌≡◌, refl, sym, ap, subst, ◌⊎◌, ◌↔◌, ◌+◌, ◌<◌, ◌≤◌, ℕ, max, nat_le, IsTrue, Bool, List, length, arith, unwrap_or, Option, Some, None, IfSome}
use mathlib.Core.Logic.{inl, inr}
use Rattle.std.specs.List.{Contains}
use Rattle.std.proofs.lemmas.Option.{slice_get_within}
use Rattle.ix_model.specs.declared.grammar.Mark.{Mark}
use Rattle.ix_model.specs.declared.plan.SlotInfo.{SlotInfo}
use Rattle.ix_model.specs.declared.rules.Sym.{Sym}
use Rattle.ix_model.specs.declared.rules.Sym.TheVariants as sy
use Rattle.ix_model.specs.Expansion.Parts.{Parts}
use Rattle.ix_model.specs.Expansion.Planned.{IsPlanned}
use Rattle.ix_model.specs.Expansion.Numbered.{lines_at, syms_at}
use Rattle.ix_model.specs.Expansion.Slots.{IsSlot, info_at}
use Rattle.ix_model.specs.Expansion.SlotPlaces.{HasNext}
use Rattle.ix_model.specs.Expansion.FlatTrees.{FlatTree, flat_text, flat_insertion, flat_node, FlatTrees, no_flat, flats_and, flat_count}
use Rattle.ix_model.specs.Expansion.FlatDerives.{FlatDerives}
use Rattle.ix_model.specs.Expansion.FlatHeights.{flat_height, flat_heights}
use Rattle.ix_model.specs.Closure.Useful.{sub_at, Useful}
use Rattle.ix_model.proofs.Readers.{slot_at, alt_there}
use Rattle.ix_model.proofs.SlotPlaces.{slot_for}
use Rattle.ix_model.proofs.Slots.{one_slot}
use Rattle.ix_closure_laws.specs.ClosedLaws.{Covers}
use Rattle.ix_closure_laws.specs.Reached.{SubReached}
use Rattle.ix_closure_laws.proofs.ClosedTrees.{covers_next, part_split, part_trees}
use Rattle.ix_closure_laws.proofs.FlatWidths.{width_is}
use Rattle.ix_closure_laws.proofs.Frames.{useful_of}
use Rattle.ix_closure_laws.proofs.Reaching.{reached_part, useful_reached}
use Rattle.ix_closure_laws.proofs.TreesClosed.{covered_part}
use Rattle.ix_subtrees.specs.declared.entry.Entry.{Entry}
use Rattle.ix_subtrees.specs.Entries.{entry_for}
use Rattle.ix_subtrees.specs.Sets.{AreAlts, IsLastOf}
use Rattle.ix_first_laws.specs.Bounded.{TreesWithin}
use Rattle.ix_first_laws.specs.Least.{AltWithin, IsLeastHeight}
use Rattle.ix_first_laws.proofs.Lines.{line_is, line_syms, line_within}
use Rattle.ix_height.specs.Spans.{of_slot, of_rule, IsOfUse}
use Rattle.ix_height.specs.Heights.{HasHeight, IsAnswer, IsLeastOf}
use Rattle.ix_height.proofs.Descent.{called_by, reached_other}
use Rattle.ix_choice.specs.SlotTrees.{slot_syms, AreBefore, AreBeforeWithin, HasHeightBefore, HasSymHeight, IsSlotOfUse, MayStart}
use Rattle.ix_choice.proofs.SlotFacts.{info_is, are_before, covers_of, before_there, end_used}

module _ (plan : Parts) where
  -- ---- answers

  pub answered : (r i j h : ℕ) (o : Option ℕ) → IsAnswer plan (of_rule r i j) o → o ≡ Some h → IsLeastHeight plan r i j h
  answered r i j h o a e =
      let l : IsLeastOf (HasHeight plan (of_rule r i j)) h = (subst (λ (z : Option ℕ). IfSome z (λ n. IsOfUse plan (of_rule r i j) × IsLeastOf (HasHeight plan (of_rule r i j)) n)) e a.some).1 in
      record { tree = l.it.0; derived = l.it.1; height = l.it.2; least = λ d k. l.least (flat_height plan.rules d) (d, k, refl) }

  marked : (d : FlatTree) (r i j : ℕ) (m n : Option Mark) → FlatDerives plan d (sy.Rule r m) i j → FlatDerives plan d (sy.Rule r n) i j
  marked (flat_text x y) r i j m n k = absurd (cc k.2.3)
  marked flat_insertion r i j m n k = absurd (cc k.1)
  marked (flat_node q c fs) r i j m n k = let z : q ≡ r = cc k.1 in (n, ap (λ (v : ℕ). sy.Rule v n) (sym z), k.2, k.3, k.4, k.5)

  pub rule_is_least : (r i j h : ℕ) (m : Option Mark) → IsLeastHeight plan r i j h → IsLeastOf (HasSymHeight plan (sy.Rule r m) i j) h
  rule_is_least r i j h m l = record {
    it = (l.tree, marked l.tree r i j None m l.derived, l.height);
    least = λ n (d, k, e). omega (arith, e, l.least d (marked d r i j m None k));
  }

  pub text_is_least : (t i j : ℕ) (shown : Bool) → (d : FlatTree) × FlatDerives plan d (sy.Term t shown) i j → IsLeastOf (HasSymHeight plan (sy.Term t shown) i j) 0
  text_is_least t i j shown (d, k) = record { it = (d, k, by_tree d k); least = λ n h. omega arith }
    where
      by_tree : (d : FlatTree) → FlatDerives plan d (sy.Term t shown) i j → flat_height plan.rules d ≡ 0
      by_tree (flat_text x y) k = refl
      by_tree flat_insertion k = refl
      by_tree (flat_node q c fs) k = absurd (cc k.1)

  pub insertion_is_least : (t i j : ℕ) → (d : FlatTree) × FlatDerives plan d (sy.Insert t) i j → IsLeastOf (HasSymHeight plan (sy.Insert t) i j) 0
  insertion_is_least t i j (d, k) = record { it = (d, k, by_tree d k); least = λ n h. omega arith }
    where
      by_tree : (d : FlatTree) → FlatDerives plan d (sy.Insert t) i j → flat_height plan.rules d ≡ 0
      by_tree (flat_text x y) k = refl
      by_tree flat_insertion k = refl
      by_tree (flat_node q c fs) k = absurd (cc k.1)

  -- heights that are up to the bound are those of trees that may start
  pub starts : (b v i j k m n r : ℕ) (x : Sym) → IsLeastOf (HasHeightBefore plan v i k) m → IsLeastOf (HasSymHeight plan x k j) n → r ≡ max m n → IsTrue (nat_le r b) ↔ MayStart plan b v x i j k
  starts b v i j k m n r x f l e = (
    λ p. (f.it.0, l.it.0, (f.it.1.0, f.it.1.1, grind (arith, p, e, f.it.2)), (l.it.1, grind (arith, p, e, l.it.2))),
    λ (ds, d, (t, c, p), (h, q)). grind (arith, e, p, f.least (flat_heights plan.rules ds) (ds, (t, c), refl), q, l.least (flat_height plan.rules d) (d, h, refl)),
  )

  -- the alternative has trees over the span, no higher than b
  abbrev pub HasAlt : ℕ → ℕ → ℕ → ℕ → ℕ → Type 0
  HasAlt b r i j a = (ds : FlatTrees) × AltWithin plan b r i j a ds

  -- ---- an alternative that is listed is there, and its last slot is of use

  pub record Listed (r a i j : ℕ) : Type 0 where
    pub used : (s : ℕ) × IsSlot plan s r a (length (syms_at plan.rules r a)) × IsOfUse plan (of_slot s i j)
    pub rule_there : r < length plan.rules.flats
    pub alt_there : a < length (lines_at plan.rules r)

  pub listed : (es : List Entry) → AreAlts plan es → (r a i j : ℕ) → Contains es (entry_for r i j a) → Listed r a i j
  listed es are r a i j c = by_last ((are (entry_for r i j a)).0 c)
    where
      by_last : (s : ℕ) × (k : ℕ) × IsLastOf plan s r a × Useful plan (sub_at s i k j) → Listed r a i j
      by_last (s, k, (syms, at, line), u) = record {
        used = (s, subst (λ (z : List Sym). IsSlot plan s r a (length z)) (sym (line_syms plan r a syms line)) at, (k, u));
        rule_there = slice_get_within plan.rules.flats r line.0 line.2;
        alt_there = line_within plan r a syms line;
      }

module _ (plan : Parts) (planned : IsPlanned plan) where
  pub slot_trees : (s i j : ℕ) → IsOfUse plan (of_slot s i j) → (ds : FlatTrees) × AreBefore plan s i j ds
  slot_trees s i j (k, u) = let t = part_trees plan s i k j (reached_part plan planned s i k j (useful_reached plan planned (sub_at s i k j) u)) in (t.0, are_before plan s i j t.0 t.1)

  pub least_before : (s i j : ℕ) (o : Option ℕ) → IsAnswer plan (of_slot s i j) o → IsSlotOfUse plan s i j → (ds : FlatTrees) × AreBefore plan s i j ds → IsLeastOf (HasHeightBefore plan s i j) (unwrap_or o 0)
  least_before s i j (Some h) a u t =
      let l : IsLeastOf (HasHeight plan (of_slot s i j)) h = a.some.1 in
      record { it = (l.it.0, are_before plan s i j l.it.0 l.it.1, l.it.2); least = λ n (ds, k, e). l.least n (ds, covers_of plan planned s i j ds u.0 k, e) }
  least_before s i j None a u t = record { it = by_use u.1; least = λ n h. omega arith }
    where
      by_trees : (info_at plan s).dot ≡ 0 → (ds : FlatTrees) → AreBefore plan s i j ds → HasHeightBefore plan s i j 0
      by_trees e no_flat h = (no_flat, h, refl)
      by_trees e (flats_and ds d) h = absurd (omega (arith, e, h.1))

      by_use : ((info_at plan s).dot ≡ 0) ⊎ IsOfUse plan (of_slot s i j) → HasHeightBefore plan s i j 0
      by_use (inl e) = by_trees e t.0 t.1
      by_use (inr used) = absurd (a.none refl used)

  -- ---- pivots: of slot s behind the symbol x, and slot v before it

  module _ (v s i j : ℕ) (x : Sym) (n : HasNext plan v s x) where
    -- a useful pivot has trees
    pub pivot_trees : (k : ℕ) → Useful plan (sub_at s i k j) → (ds : FlatTrees) × (d : FlatTree) × AreBefore plan v i k ds × FlatDerives plan d x k j
    pivot_trees k u =
        let there = before_there plan planned v s x n in
        let t = part_split plan v s i k j (info_at plan v).head (info_at plan v).alt (info_at plan v).dot (slot_syms plan v) x (reached_part plan planned s i k j (useful_reached plan planned (sub_at s i k j) u)) n (slot_at plan planned v there)
        (line_is plan (info_at plan v).head (info_at plan v).alt (alt_there plan planned v there)) in
        (t.0, t.1, (t.3, t.2), t.4)

    -- where trees start, the pivot is useful
    pub start_useful : (b k : ℕ) → IsOfUse plan (of_slot s i j) → MayStart plan b v x i j k → Useful plan (sub_at s i k j)
    start_useful b k u (ds, d, (t, c, _), (h, _)) =
        let w : SubReached plan s i u.0 j = useful_reached plan planned (sub_at s i u.0 j) u.1 in
        let all : Covers plan s (flats_and ds d) i j = covers_next plan v s i k j x ds d n h (covers_of plan planned v i k ds (before_there plan planned v s x n) (t, c)) in
        let called = called_by plan planned s i u.0 j (flats_and ds d) w all in
        useful_of plan planned s i k j (reached_other plan planned s i u.0 j w k (covered_part plan planned s i k j (flats_and ds d) (all.0, all.1, flat_count ds + 1, all.3, called) all (width_is plan d x k j h)))

  -- ---- alternatives

  pub end_is : (s last r a n i j : ℕ) → IsSlot plan s r a n → IsSlot plan last r a n → IsOfUse plan (of_slot s i j) → IsOfUse plan (of_slot last i j)
  end_is s last r a n i j h k u = subst (λ (z : ℕ). IsOfUse plan (of_slot z i j)) (one_slot plan planned s last r a n h k) u

  -- at the end of an alternative all its trees are before the dot
  pub end_within : (b s r a i j : ℕ) (ds : FlatTrees) → IsSlot plan s r a (length (syms_at plan.rules r a)) → AreBeforeWithin plan b s i j ds ↔ AltWithin plan b r i j a ds
  end_within b s r a i j ds at =
      let e = info_is plan s r a (length (syms_at plan.rules r a)) at in
      (subst (λ (z : SlotInfo). TreesWithin plan b (syms_at plan.rules z.head z.alt) z.dot i j ds) e, subst (λ (z : SlotInfo). TreesWithin plan b (syms_at plan.rules z.head z.alt) z.dot i j ds) (sym e))

  pub fits : (b s r a i j h : ℕ) → IsSlot plan s r a (length (syms_at plan.rules r a)) → IsLeastOf (HasHeightBefore plan s i j) h → (h ≤ b) ↔ ((ds : FlatTrees) × AltWithin plan b r i j a ds)
  fits b s r a i j h at l = (
    λ p. (l.it.0, (end_within b s r a i j l.it.0 at).0 (l.it.1.0, l.it.1.1, omega (arith, p, l.it.2))),
    λ (ds, w). let t = (end_within b s r a i j ds at).1 w in omega (arith, t.2, l.least (flat_heights plan.rules ds) (ds, (t.0, t.1), refl)),
  )

  -- an alternative with trees is listed where the rule's span is of use
  pub alt_listed : (es : List Entry) → AreAlts plan es → (b r a i j : ℕ) (ds : FlatTrees) → IsOfUse plan (of_rule r i j) → a < length (lines_at plan.rules r) → AltWithin plan b r i j a ds → Contains es (entry_for r i j a)
  alt_listed es are b r a i j ds u inside (t, c, _) =
      let line = line_is plan r a inside in
      let s = slot_for plan planned r a (length (syms_at plan.rules r a)) (syms_at plan.rules r a) line (omega arith) in
      let used = end_used plan planned r a s.0 i j ds u s.1 inside t c in
      (are (entry_for r i j a)).1 (s.0, used.0, (syms_at plan.rules r a, s.1, line), used.1)
