-- The first trees of the alternatives of a rule over a span. Within itself a list is looked for over spans that end sooner, so that the
-- search ends.
use Rattle.std.proofs.Common.{◌≡◌, refl, sym, ap, subst, ◌∙◌, ◌⊎◌, ◌+◌, ◌<◌, ◌≤◌, ℕ, List, length, arith, slice_get, Some, None, Option}
use mathlib.Core.Logic.{inl, inr}
use Rattle.ix_model.specs.declared.grammar.Mark.{Mark}
use Rattle.ix_model.specs.declared.rules.Kind.TheVariants as kind
use Rattle.ix_model.specs.declared.rules.Sym.{Sym}
use Rattle.ix_model.specs.declared.rules.Sym.TheVariants as sy
use Rattle.ix_model.specs.Expansion.Parts.{Parts}
use Rattle.ix_model.specs.Expansion.Numbered.{kind_at, lines_at}
use Rattle.ix_model.specs.Expansion.FlatTrees.{FlatTree, FlatTrees, no_flat, flats_and, flat_count, flat_width}
use Rattle.ix_model.specs.Expansion.FlatDerives.{FlatDerives, FlatDerivesFirst, IsLine}
use Rattle.ix_model.specs.Expansion.FlatHeights.{flat_height, flat_heights}
use Rattle.ix_model.specs.Expansion.FlatOrder.{FlatsBefore}
use Rattle.ix_model.proofs.Decide.{Answered, Least, least}
use Rattle.ix_model.proofs.SlotPlaces.{same_line}
use Rattle.ix_closure_laws.proofs.FlatWidths.{width_is}
use Rattle.ix_tree_laws.proofs.Found.{FirstOf, Found}
use Rattle.ix_first_laws.specs.Nested.{MayLead, IsNested}
use Rattle.ix_first_laws.proofs.Chains.{Chain, ChainOf, FoundChain, FoundNth, found_chain, first_end}
use Rattle.ix_first_laws.proofs.Lines.{line_at, leads}
use Rattle.ix_first_laws.proofs.NodeKinds.{is_list, AltBefore, first_or_same}
use Rattle.ix_first_laws.proofs.Symbols.{FoundTree}

module _ (plan : Parts) where
  -- the symbol is the list that it stands in
  abbrev pub Self : ℕ → Sym → Type 0
  Self r x = (q : ℕ) × (m : Option Mark) × (x ≡ sy.Rule q m) × (q ≡ r) × (kind_at plan.rules r ≡ kind.List)

  is_self : (r : ℕ) (x : Sym) → Answered (Self r x)
  is_self r (sy.Term t m) = inr (λ h. cc h.2)
  is_self r (sy.Insert n) = inr (λ h. cc h.2)
  is_self r (sy.Rule q m) = by_both (grind arith) (is_list (kind_at plan.rules r))
    where
      by_both : Answered (q ≡ r) → Answered (kind_at plan.rules r ≡ kind.List) → Answered (Self r (sy.Rule q m))
      by_both (inl e) (inl k) = inl (q, m, refl, e, k)
      by_both (inr e) k = inr (λ h. let z : h.0 ≡ q = cc h.2 in e (sym z ∙ h.3))
      by_both (inl e) (inr k) = inr (λ h. k h.4)

  -- ---- the trees of these symbols of rule r that end at J, where a list within itself ends before J

  module _ (b r : ℕ) (syms : List Sym) (J : ℕ) where
    abbrev pub Nth : ℕ → ℕ → ℕ → FlatTree → Type 0
    Nth n i k d = (x : Sym) × (slice_get syms n ≡ Some x) × FlatDerives plan d x i k × (flat_height plan.rules d ≤ b) × (Self r x → k < J)

    nth_wide : (n i k : ℕ) (d : FlatTree) → Nth n i k d → i + flat_width d ≡ k
    nth_wide n i k d h = width_is plan d h.0 i k h.2

    -- from the first trees of other symbols, and those of the list itself over spans that end before J
    pub nth_found : ((n : ℕ) (x : Sym) → slice_get syms n ≡ Some x → (Self r x → ⊥) → (i k : ℕ) → FoundTree plan b x i k) →
        ((m : Option Mark) (i k : ℕ) → kind_at plan.rules r ≡ kind.List → k < J → FoundTree plan b (sy.Rule r m) i k) → (n i k : ℕ) → FoundNth plan.rules Nth n i k
    nth_found each self n i k = by_symbol (slice_get syms n) refl
      where
        kept : (x : Sym) → slice_get syms n ≡ Some x → (Self r x → k < J) → FoundTree plan b x i k → FoundNth plan.rules Nth n i k
        kept x at bound (inl (d, y)) =
            inl (d, record { holds = (x, at, y.holds.0, y.holds.1, bound); before = λ e h. let q : h.0 ≡ x = cc (at, h.1) in y.before e (subst (λ z. FlatDerives plan e z i k) q h.2, h.3) })
        kept x at bound (inr none) = inr (λ e h. let q : h.0 ≡ x = cc (at, h.1) in none e (subst (λ z. FlatDerives plan e z i k) q h.2, h.3))

        bounded : (x : Sym) → slice_get syms n ≡ Some x → Self r x → Answered (k < J) → FoundNth plan.rules Nth n i k
        bounded x at (q, m, e, same, l) (inl h) = kept x at (λ s. h) (subst (λ z. FoundTree plan b z i k) (sym (e ∙ ap (λ (z : ℕ). sy.Rule z m) same)) (self m i k l h))
        bounded x at s (inr h) = inr (λ d l. let q : l.0 ≡ x = cc (at, l.1) in h (l.4 (subst (λ z. Self r z) (sym q) s)))

        by_self : (x : Sym) → slice_get syms n ≡ Some x → Answered (Self r x) → FoundNth plan.rules Nth n i k
        by_self x at (inr h) = kept x at (λ s. absurd (h s)) (each n x at h i k)
        by_self x at (inl h) = bounded x at h (grind arith)

        by_symbol : (y : Option Sym) → slice_get syms n ≡ y → FoundNth plan.rules Nth n i k
        by_symbol None e = inr (λ d h. cc (sym e ∙ h.1))
        by_symbol (Some x) e = by_self x e (is_self r x)

    pub from_chain : (ds : FlatTrees) (i j : ℕ) → Chain plan.rules Nth ds i j → FlatDerivesFirst plan ds syms i j × (flat_heights plan.rules ds ≤ b)
    from_chain no_flat i j h = (h, omega arith)
    from_chain (flats_and ds d) i j (k, a, (x, at, h, high, _)) = let z = from_chain ds i k a in ((k, x, z.0, at, h), omega (arith, z.1, high))

    -- a list within itself ends before J
    pub ends_before : (ds : FlatTrees) (i j : ℕ) (x : Sym) → slice_get syms 0 ≡ Some x → Self r x → Chain plan.rules Nth ds i j → 0 < flat_count ds → first_end plan.rules ds i < J
    ends_before no_flat i j x at s h q = absurd (omega (arith, q))
    ends_before (flats_and no_flat d) i j x at s (k, e, y) q =
        let z : x ≡ y.0 = cc (at, y.1) in
        let l : j < J = y.4 (subst (λ v. Self r v) z s) in
        omega (arith, e, nth_wide 0 k j d y, l)
    ends_before (flats_and (flats_and ds e) d) i j x at s (k, a, y) q = ends_before (flats_and ds e) i k x at s a (omega arith)

    -- the alternative c begins with the list itself, the tree of which ends at J
    abbrev pub Late : ℕ → FlatTrees → ℕ → Type 0
    Late c es i = (c ≡ 1) × (kind_at plan.rules r ≡ kind.List) × ((x : Sym) × (slice_get syms 0 ≡ Some x) × Self r x) × (first_end plan.rules es i ≡ J)

  -- all trees of an alternative are such trees, or they are late
  module _ (nested : IsNested plan.rules) (b r c : ℕ) (syms : List Sym) (line : IsLine plan r c syms) (J : ℕ) where
    self_place : (n : ℕ) (x : Sym) → slice_get syms n ≡ Some x → Self r x → (c ≡ 1) × (n ≡ 0)
    self_place n x at (q, m, e, same, k) = by_lead (leads plan nested r c n q syms m line (at ∙ ap Some e))
      where
        by_lead : MayLead plan.rules r c n q → (c ≡ 1) × (n ≡ 0)
        by_lead (inl h) = absurd (cc (h, k))
        by_lead (inr (inl h)) = absurd (cc (h, k, ap (kind_at plan.rules) same))
        by_lead (inr (inr (inl h))) = absurd (omega (arith, h, same))
        by_lead (inr (inr (inr h))) = (h.2, h.3)

    pub to_chain : (es : FlatTrees) (i j : ℕ) → j ≤ J → FlatDerivesFirst plan es syms i j → flat_heights plan.rules es ≤ b → Chain plan.rules (Nth b r syms J) es i j ⊎ Late b r syms J c es i
    to_chain no_flat i j l h high = inl h
    to_chain (flats_and no_flat d) i j l (k, x, e, at, h) high = by_self (is_self r x) (grind arith)
      where
        w : k + flat_width d ≡ j
        w = width_is plan d x k j h

        by_self : Answered (Self r x) → Answered (j < J) → Chain plan.rules (Nth b r syms J) (flats_and no_flat d) i j ⊎ Late b r syms J c (flats_and no_flat d) i
        by_self (inr n) q = inl (k, e, (x, at, h, omega (arith, high), λ s. absurd (n s)))
        by_self (inl s) (inl q) = inl (k, e, (x, at, h, omega (arith, high), λ s. q))
        by_self (inl s) (inr q) = inr ((self_place 0 x at s).0, s.4, (x, at, s), grind (arith, e, w, q, l))
    to_chain (flats_and (flats_and es d') d) i j l (k, x, a, at, h) high =
        by_first (to_chain (flats_and es d') i k (omega (arith, l, width_is plan d x k j h)) a (omega (arith, high)))
      where
        by_first : Chain plan.rules (Nth b r syms J) (flats_and es d') i k ⊎ Late b r syms J c (flats_and es d') i → Chain plan.rules (Nth b r syms J) (flats_and (flats_and es d') d) i j ⊎ Late b r syms J c (flats_and (flats_and es d') d) i
        by_first (inl q) = inl (k, q, (x, at, h, omega (arith, high), λ s. absurd (omega (arith, (self_place (flat_count (flats_and es d')) x at s).1))))
        by_first (inr q) = inr q

  -- ---- alternatives

  module _ (b r i J : ℕ) where
    -- the trees are such trees of alternative a
    pub record AltOf (a : ℕ) (ds : FlatTrees) : Type 0 where
      pub syms : List Sym
      pub line : IsLine plan r a syms
      pub all : Chain plan.rules (Nth b r syms J) ds i J
      pub count : flat_count ds ≡ length syms

    abbrev pub FirstAlt : ℕ → FlatTrees → Type 0
    FirstAlt a ds = FirstOf FlatTrees (AltOf a) (λ ds es. FlatsBefore plan.rules ds es J) ds

    abbrev pub NoAlt : ℕ → Type 0
    NoAlt a = (ds : FlatTrees) → AltOf a ds → ⊥

    -- the least alternative that has such trees, with the first of them, or there is none
    abbrev pub LeastAlt : Type 0
    LeastAlt = Least (λ a. (ds : FlatTrees) × FirstAlt a ds) NoAlt (length (lines_at plan.rules r))

    alt_at : (a : ℕ) → ((syms : List Sym) (n i k : ℕ) → IsLine plan r a syms → FoundNth plan.rules (Nth b r syms J) n i k) →
        ((syms : List Sym) × IsLine plan r a syms) ⊎ ((syms : List Sym) → IsLine plan r a syms → ⊥) → Found FlatTrees (AltOf a) (λ ds es. FlatsBefore plan.rules ds es J)
    alt_at a each (inr none) = inr (λ ds h. none h.syms h.line)
    alt_at a each (inl (syms, line)) = by_found (found_chain plan.rules (Nth b r syms J) (nth_wide b r syms J) (λ n i k. each syms n i k line) (length syms) i J)
      where
        back : (es : FlatTrees) → AltOf a es → ChainOf plan.rules (Nth b r syms J) (length syms) i J es
        back es h = let e = same_line plan r a h.syms syms h.line line in (subst (λ z. Chain plan.rules (Nth b r z J) es i J) e h.all, h.count ∙ ap length e)

        by_found : FoundChain plan.rules (Nth b r syms J) (length syms) i J → Found FlatTrees (AltOf a) (λ ds es. FlatsBefore plan.rules ds es J)
        by_found (inl (ds, x)) = inl (ds, record { holds = record { syms = syms; line = line; all = x.holds.0; count = x.holds.1 }; before = λ es h. x.before es (back es h) })
        by_found (inr none) = inr (λ es h. none es (back es h))

    pub least_alt : ((a : ℕ) (syms : List Sym) (n i k : ℕ) → IsLine plan r a syms → FoundNth plan.rules (Nth b r syms J) n i k) → LeastAlt
    least_alt each = least (λ a. (ds : FlatTrees) × FirstAlt a ds) NoAlt (length (lines_at plan.rules r)) (λ a h. alt_at a (each a) (line_at plan r a))

    -- they are before the trees of each alternative, or the same
    pub by_alt : (a c : ℕ) (ds es : FlatTrees) → FirstAlt a ds → ((m : ℕ) → m < a → NoAlt m) → AltOf c es → ((a ≡ c) × (es ≡ ds)) ⊎ AltBefore plan.rules r a ds J c es
    by_alt a c ds es x less h = first_or_same plan.rules r a ds J c es (λ k. less c k es h) (λ k. x.before es (subst (λ (z : ℕ). AltOf z es) (sym k) h))
