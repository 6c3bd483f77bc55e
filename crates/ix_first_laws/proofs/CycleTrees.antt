-- The trees of S: S; "a". on the text `a`.
use Rattle.std.proofs.Common.{◌≡◌, refl, sym, ap, subst, ◌∙◌, ◌⊎◌, ◌+◌, ◌<◌, ◌≤◌, ℕ, zero, suc, List, [], ◌∷◌, length, None, codes, arith, true}
use mathlib.Core.Logic.{inl, inr}
use Rattle.ix_model.specs.declared.rules.Sym.{Sym}
use Rattle.ix_model.specs.Expansion.Parts.{Parts}
use Rattle.ix_model.specs.Expansion.Numbered.{syms_at}
use Rattle.ix_model.specs.Expansion.FlatTrees.{FlatTree, flat_text, flat_insertion, flat_node, FlatTrees, flat_count}
use Rattle.ix_model.specs.Expansion.FlatDerives.{FlatDerives, FlatDerivesFirst}
use Rattle.ix_model.specs.Expansion.FlatHeights.{flat_height, flat_heights}
use Rattle.ix_model.specs.Expansion.FlatOrder.{FlatBefore}
use Rattle.ix_examples.specs.SmallPlans.{a_by, alone, call, cycle, literal}
use Rattle.ix_examples.proofs.SmallPlans.{literal_stands, literal_derived}
use Rattle.ix_expansion_laws.proofs.Children.{one_child}
use Rattle.ix_first_laws.specs.Bounded.{TreesWithin, IsBestTree}
use Rattle.ix_first_laws.proofs.Fits.{Whatever, whatever}
use Rattle.ix_first_laws.proofs.Lines.{line_syms, line_within}
use Rattle.ix_first_laws.proofs.NamedTrees.{named_height}
use Rattle.ix_first_laws.proofs.Nodes.{by_node}

-- a literal's tree is its text
pub literal_is_text : (plan : Parts) (d : FlatTree) (n i j : ℕ) → FlatDerives plan d (literal n) i j → d ≡ flat_text i j
literal_is_text plan (flat_text a b) n i j h = cc (h.0, h.1)
literal_is_text plan flat_insertion n i j h = absurd (cc h.1)
literal_is_text plan (flat_node r a ds) n i j h = absurd (cc h.1)

abbrev pub a_cycle : Parts
a_cycle = cycle (codes "a")

-- the tree of the literal, and a tree that holds another one
pub data CycleTree : FlatTree → ℕ → ℕ → Type 0 where
  by_literal : CycleTree (a_by 1) 0 1
  by_cycle : (d : FlatTree) (i j : ℕ) → FlatDerives a_cycle d (call 0) i j → CycleTree (flat_node 0 0 (alone d)) i j

literal_case : (ds : FlatTrees) (d : FlatTree) (i j : ℕ) → ds ≡ alone d → d ≡ flat_text i j → i ≡ 0 → j ≡ 1 → CycleTree (flat_node 0 1 ds) i j
literal_case ds d i j p q e f = rw (p, q, e, f) by_literal

by_alt : (a : ℕ) (ds : FlatTrees) (syms : List Sym) (i j : ℕ) → syms_at a_cycle.rules 0 a ≡ syms → a < 2 → flat_count ds ≡ length syms → FlatDerivesFirst a_cycle ds syms i j → CycleTree (flat_node 0 a ds) i j
by_alt zero ds syms i j e l n h =
    let v = one_child a_cycle Whatever ds (whatever ds) (call 0) i j (n ∙ sym (ap (λ (xs : List Sym). length xs) e)) (subst (λ zs. FlatDerivesFirst a_cycle ds zs i j) (sym e) h) in
    subst (λ es. CycleTree (flat_node 0 0 es) i j) (sym v.1) (by_cycle v.0 i j v.3)
by_alt (suc zero) ds syms i j e l n h =
    let v = one_child a_cycle Whatever ds (whatever ds) (literal 0) i j (n ∙ sym (ap (λ (xs : List Sym). length xs) e)) (subst (λ zs. FlatDerivesFirst a_cycle ds zs i j) (sym e) h) in
    let s = literal_stands a_cycle 0 i j (codes "a") refl (literal_derived a_cycle v.0 0 i j v.3) in
    literal_case ds v.0 i j v.1 (literal_is_text a_cycle v.0 0 i j v.3) (omega (arith, s.0, s.1)) (omega (arith, s.0, s.1))
by_alt (suc (suc a)) ds syms i j e l n h = absurd (omega (arith, l))

pub cycle_tree : (d : FlatTree) (i j : ℕ) → FlatDerives a_cycle d (call 0) i j → CycleTree d i j
cycle_tree d i j h =
    by_node a_cycle 0 i j (λ z. CycleTree z i j) (λ a ds n. by_alt a ds n.syms i j (line_syms a_cycle 0 a n.syms n.line) (line_within a_cycle 0 a n.syms n.line) n.count n.trees) d None h

pub cycle_height : (d : FlatTree) (i j : ℕ) → FlatDerives a_cycle d (call 0) i j → 1 ≤ flat_height a_cycle.rules d
cycle_height d i j h = named_height a_cycle 0 i j refl None d h

-- each tree up to this height ends with the text
pub cycle_span : (n : ℕ) (d : FlatTree) (i j : ℕ) → flat_height a_cycle.rules d ≤ n → FlatDerives a_cycle d (call 0) i j → j ≡ 1
cycle_span zero d i j l h = absurd (omega (arith, l, cycle_height d i j h))
cycle_span (suc n) d i j l h = by_tree d i j (cycle_tree d i j h) l (cycle_span n)
  where
    by_tree : (d : FlatTree) (i j : ℕ) → CycleTree d i j → flat_height a_cycle.rules d ≤ suc n → ((e : FlatTree) (i j : ℕ) → flat_height a_cycle.rules e ≤ n → FlatDerives a_cycle e (call 0) i j → j ≡ 1) → j ≡ 1
    by_tree d i j by_literal l f = refl
    by_tree d i j (by_cycle e _ _ h) l f = f e i j (omega (arith, l)) h

pub derived_a : FlatDerives a_cycle (a_by 1) (call 0) 0 1
derived_a = (None, refl, _, (_, _, refl, refl, refl), refl, (0, _, refl, refl, (refl, refl, (0, true, _, refl, refl, (refl, omega arith, refl)))))

-- the tree of the literal is the first
first_by : (d : FlatTree) (i j : ℕ) → CycleTree d i j → (d ≡ a_by 1) ⊎ FlatBefore a_cycle.rules (a_by 1) d j
first_by d i j by_literal = inl refl
first_by d i j (by_cycle e _ _ h) = inr (inl (omega (arith, cycle_height e i j h)))

pub cycle_best : (b : ℕ) → IsBestTree a_cycle (b + 1) (call 0) 0 1 (a_by 1)
cycle_best b = record { within = (derived_a, omega arith); before = λ e h. first_by e 0 1 (cycle_tree e 0 1 h.0) }

pub not_before : FlatBefore a_cycle.rules (flat_node 0 0 (alone (a_by 1))) (a_by 1) 1 → ⊥
not_before (inl h) = omega (arith, h)
not_before (inr h) = omega (arith, h.0)

pub literal_fits : TreesWithin a_cycle 0 (literal 0 ∷ []) 1 0 1 (alone (flat_text 0 1))
literal_fits = ((0, _, refl, refl, (refl, refl, (0, true, _, refl, refl, (refl, omega arith, refl)))), refl, omega arith)

pub cycle_fits : TreesWithin a_cycle 1 (call 0 ∷ []) 1 0 1 (alone (a_by 1))
cycle_fits = ((0, _, refl, refl, derived_a), refl, omega arith)

-- the first alternative has no trees of height 0
pub cycle_line : (b : ℕ) (es : FlatTrees) (i j : ℕ) → TreesWithin a_cycle b (call 0 ∷ []) 1 i j es → 1 ≤ b
cycle_line b es i j h =
    let v = one_child a_cycle Whatever es (whatever es) (call 0) i j h.1 h.0 in
    bounded es v.0 v.1 h.2 (cycle_height v.0 i j v.3)
  where
    bounded : (es : FlatTrees) (d : FlatTree) → es ≡ alone d → flat_heights a_cycle.rules es ≤ b → 1 ≤ flat_height a_cycle.rules d → 1 ≤ b
    bounded es d p l k = let q : flat_heights a_cycle.rules (alone d) ≤ b = subst (λ z. flat_heights a_cycle.rules z ≤ b) p l in omega (arith, q, k)
