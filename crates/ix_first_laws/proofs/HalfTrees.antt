-- The trees of S: A, A. A: "a"; . on the text `a`.
use Rattle.std.proofs.Common.{◌≡◌, refl, sym, ap, subst, ◌∙◌, ◌<◌, ◌≤◌, ℕ, zero, suc, List, [], ◌∷◌, length, None, codes, arith, true}
use mathlib.Core.Logic.{inl, inr}
use Rattle.ix_model.specs.declared.rules.Sym.{Sym}
use Rattle.ix_model.specs.Expansion.Parts.{Parts}
use Rattle.ix_model.specs.Expansion.Numbered.{syms_at}
use Rattle.ix_model.specs.Expansion.FlatTrees.{FlatTree, flat_text, flat_node, FlatTrees, no_flat, flats_and, flat_count}
use Rattle.ix_model.specs.Expansion.FlatDerives.{FlatDerives, FlatDerivesFirst}
use Rattle.ix_model.specs.Expansion.FlatHeights.{flat_height, flat_heights}
use Rattle.ix_model.specs.Expansion.FlatOrder.{FlatBefore, FlatsBefore, FlatFirst}
use Rattle.ix_examples.specs.SmallPlans.{alone, call, in_first, in_second, literal, pair, two_halves}
use Rattle.ix_examples.proofs.SmallPlans.{literal_stands, literal_derived}
use Rattle.ix_expansion_laws.proofs.Children.{one_child}
use Rattle.ix_first_laws.specs.Bounded.{TreesWithin, IsBestTree, IsBestTrees}
use Rattle.ix_first_laws.proofs.Composing.{nothing_yet, longer, named_node}
use Rattle.ix_first_laws.proofs.CycleTrees.{literal_is_text}
use Rattle.ix_first_laws.proofs.Fits.{Whatever, whatever}
use Rattle.ix_first_laws.proofs.FlatFirsts.{best_is_first}
use Rattle.ix_first_laws.proofs.Lines.{line_syms, line_within}
use Rattle.ix_first_laws.proofs.NamedTrees.{named_height}
use Rattle.ix_first_laws.proofs.Nodes.{by_node}

abbrev pub halves : Parts
halves = two_halves (codes "a")

-- the symbols of S
abbrev pub two : List Sym
two = call 1 ∷ call 1 ∷ []

-- the half that has the character, and the one that has none
abbrev pub full : FlatTree
full = flat_node 1 0 (alone (flat_text 0 1))

abbrev pub empty : FlatTree
empty = flat_node 1 1 no_flat

pub data HalfTree : FlatTree → ℕ → ℕ → Type 0 where
  is_full : HalfTree full 0 1
  is_empty : (i : ℕ) → HalfTree empty i i

full_case : (ds : FlatTrees) (d : FlatTree) (i j : ℕ) → ds ≡ alone d → d ≡ flat_text i j → i ≡ 0 → j ≡ 1 → HalfTree (flat_node 1 0 ds) i j
full_case ds d i j p q e f = rw (p, q, e, f) is_full

empty_case : (ds : FlatTrees) (i j : ℕ) → flat_count ds ≡ 0 → FlatDerivesFirst halves ds [] i j → HalfTree (flat_node 1 1 ds) i j
empty_case no_flat i j n h = subst (λ (z : ℕ). HalfTree empty i z) h (is_empty i)
empty_case (flats_and ds d) i j n h = absurd (omega (arith, n))

by_alt : (a : ℕ) (ds : FlatTrees) (syms : List Sym) (i j : ℕ) → syms_at halves.rules 1 a ≡ syms → a < 2 → flat_count ds ≡ length syms → FlatDerivesFirst halves ds syms i j → HalfTree (flat_node 1 a ds) i j
by_alt zero ds syms i j e l n h =
    let v = one_child halves Whatever ds (whatever ds) (literal 0) i j (n ∙ sym (ap (λ (xs : List Sym). length xs) e)) (subst (λ zs. FlatDerivesFirst halves ds zs i j) (sym e) h) in
    let s = literal_stands halves 0 i j (codes "a") refl (literal_derived halves v.0 0 i j v.3) in
    full_case ds v.0 i j v.1 (literal_is_text halves v.0 0 i j v.3) (omega (arith, s.0, s.1)) (omega (arith, s.0, s.1))
by_alt (suc zero) ds syms i j e l n h = empty_case ds i j (n ∙ sym (ap (λ (xs : List Sym). length xs) e)) (subst (λ zs. FlatDerivesFirst halves ds zs i j) (sym e) h)
by_alt (suc (suc a)) ds syms i j e l n h = absurd (omega (arith, l))

pub half_tree : (d : FlatTree) (i j : ℕ) → FlatDerives halves d (call 1) i j → HalfTree d i j
half_tree d i j h =
    by_node halves 1 i j (λ z. HalfTree z i j) (λ a ds n. by_alt a ds n.syms i j (line_syms halves 1 a n.syms n.line) (line_within halves 1 a n.syms n.line) n.count n.trees) d None h

pub half_height : (d : FlatTree) (i j : ℕ) → FlatDerives halves d (call 1) i j → 1 ≤ flat_height halves.rules d
half_height d i j h = named_height halves 1 i j refl None d h

-- ---- the first trees

pub derived_full : FlatDerives halves full (call 1) 0 1
derived_full = (None, refl, _, (_, _, refl, refl, refl), refl, (0, _, refl, refl, (refl, refl, (0, true, _, refl, refl, (refl, omega arith, refl)))))

pub derived_empty : FlatDerives halves empty (call 1) 0 0
derived_empty = (None, refl, _, (_, _, refl, refl, refl), refl, refl)

only_full : (d : FlatTree) (i j : ℕ) → HalfTree d i j → i < j → d ≡ full
only_full d i j is_full l = refl
only_full d i j (is_empty _) l = absurd (omega (arith, l))

only_empty : (d : FlatTree) (i j : ℕ) → HalfTree d i j → i ≡ j → d ≡ empty
only_empty d i j is_full l = absurd (omega (arith, l))
only_empty d i j (is_empty _) l = refl

best_full : IsBestTree halves 1 (call 1) 0 1 full
best_full = record { within = (derived_full, omega arith); before = λ e h. inl (only_full e 0 1 (half_tree e 0 1 h.0) (omega arith)) }

best_empty : IsBestTree halves 1 (call 1) 0 0 empty
best_empty = record { within = (derived_empty, omega arith); before = λ e h. inl (only_empty e 0 0 (half_tree e 0 0 h.0) refl) }

pub best_one : IsBestTrees halves 1 two 1 0 0 (alone empty)
best_one = longer halves 1 two 0 (call 1) 0 0 0 no_flat empty refl (nothing_yet halves 1 two 0 0 refl) best_empty (λ l es e h. absurd (omega (arith, h)))

pub best_two : IsBestTrees halves 1 two 2 0 1 (pair empty full)
best_two = longer halves 1 two 1 (call 1) 0 1 0 (alone empty) full refl best_one best_full (λ l es e h. absurd (omega (arith, h)))

pub full_first : TreesWithin halves 1 two 1 0 1 (alone full)
full_first = ((0, _, refl, refl, derived_full), refl, omega arith)

-- ---- the first derivation

two_heights : (es : FlatTrees) (i j : ℕ) → flat_count es ≡ 2 → FlatDerivesFirst halves es two i j → 1 ≤ flat_heights halves.rules es
two_heights no_flat i j n h = absurd (omega (arith, n))
two_heights (flats_and es e) i j n (k, x, a, at, h) =
    let m : flat_count es ≡ 1 = omega (arith, n) in
    let q : x ≡ call 1 = cc (m, at) in
    omega (arith, half_height e k j (subst (λ z. FlatDerives halves e z k j) q h))

root_heights : (c : ℕ) (es : FlatTrees) → FlatDerives halves (flat_node 0 c es) (call 0) 0 1 → 1 ≤ flat_heights halves.rules es
root_heights zero es h =
    let e = line_syms halves 0 0 h.2 h.3 in
    two_heights es 0 1 (h.4 ∙ sym (ap (λ (xs : List Sym). length xs) e)) (subst (λ zs. FlatDerivesFirst halves es zs 0 1) (sym e) h.5)
root_heights (suc c) es h = absurd (omega (arith, line_within halves 0 (suc c) h.2 h.3))

best_root : IsBestTree halves 2 (call 0) 0 1 in_second
best_root = named_node halves 1 0 0 1 0 (pair empty full) (omega arith) best_two (λ c es h. absurd (omega (arith, h))) None 2 (omega arith) refl root_heights

pub first_second : FlatFirst halves in_second
first_second = best_is_first halves refl 2 in_second best_root

pub no_pair_before : FlatsBefore halves.rules (pair full empty) (pair empty full) 1 → ⊥
no_pair_before (inl h) = omega (arith, h)
no_pair_before (inr h) = omega (arith, h.0)

pub no_root_before : FlatBefore halves.rules in_first in_second 1 → ⊥
no_root_before (inl h) = omega (arith, h)
no_root_before (inr (e, inl h)) = omega (arith, h)
no_root_before (inr (e, inr h)) = no_pair_before h.1
