-- All derivations of `ab` under `depths` and of `xx` under `runs`, and which is first.
use Rattle.std.proofs.Common.{◌≡◌, refl, ap, sym, subst, ◌⊎◌, ◌+◌, ◌≤◌, ℕ, List, [], ◌∷◌, None, codes, arith}
use mathlib.Core.Logic.{inl, inr}
use Rattle.ix_model.specs.declared.grammar.Rule.{Rule}
use Rattle.ix_model.specs.declared.grammar.Alt.{Alt}
use Rattle.ix_model.specs.declared.grammar.Term.{Term, One, Plus}
use Rattle.ix_model.specs.declared.grammar.Factor.{Factor, Call, Group}
use Rattle.ix_model.specs.Grammars.Written.{IsNamed, IsAlternative, IsOfRule}
use Rattle.ix_model.specs.Matching.Terminals.{StandsAt}
use Rattle.ix_model.specs.Derivations.Trees.{Tree, text, node, group, list, Trees, no_tree, and, Repeated, one, again, again_after}
use Rattle.ix_model.specs.Derivations.Derives.{Derives, DerivesAll, Repeats, IsDerivation}
use Rattle.ix_model.specs.Derivations.Order.{First}
use Rattle.ix_examples.specs.SmallGrammars.{alternative, rule, literal, quoted, call, depths, runs}
use Rattle.ix_examples.specs.SmallTrees.{node_of, pair, deeper, shallower, one_run, two_runs}
use Rattle.ix_examples.proofs.Inversions.{one_of_two, quoted_is_text, group_derived, plus_derived, one_derived, two_derived, one_alternative}
use Rattle.ix_worked_examples.proofs.Called.{AreApart, call_of_term}
use Rattle.ix_worked_examples.proofs.FirstTexts.{first_of_two, not_first_of_two}

-- ---- S: (A; B), D. A: C. C: "a". B: "a". D: E. E: F. F: "b".

abbrev ab : List ℕ
ab = codes "ab"

depths_apart : AreApart depths
depths_apart = (refl, (refl, (refl, (refl, (refl, (refl, (refl, tt)))))))

abbrev a_or_b : List Alt
a_or_b = alternative (call (codes "A") ∷ []) ∷ alternative (call (codes "B") ∷ []) ∷ []

-- `D` derives the last character
of_d : (d : Tree) (k : ℕ) → Derives depths ab d (call (codes "D")) k 2 → (k ≡ 1) × (d ≡ node_of 4 0 (node_of 5 0 (node_of 6 0 (text 1 2))))
of_d d k h =
    let x = call_of_term depths depths_apart ab d 4 (codes "D") (codes "D") (call (codes "E")) k 2 refl refl h in
    let y = call_of_term depths depths_apart ab x.0 5 (codes "E") (codes "E") (call (codes "F")) k 2 refl refl x.2 in
    let z = call_of_term depths depths_apart ab y.0 6 (codes "F") (codes "F") (quoted (codes "b")) k 2 refl refl y.2 in
    let t = quoted_is_text depths ab z.0 (codes "b") k 2 z.2 in
    let w : k ≡ 1 = omega (arith, t.1.0) in
    (w, cc (x.1, y.1, z.1, t.0, w))

-- the group derives the first character by either alternative
of_group : (d : Tree) → Derives depths ab d (One (Group a_or_b)) 0 1 → (d ≡ group 0 (and no_tree (node_of 1 0 (node_of 2 0 (text 0 1))))) ⊎ (d ≡ group 1 (and no_tree (node_of 3 0 (text 0 1))))
of_group d h = by_alternative (group_derived depths ab d a_or_b 0 1 h)
  where
    by_number : (a : ℕ) (ds : Trees) (terms : List Term) → d ≡ group a ds → DerivesAll depths ab ds terms 0 1 → ((a ≡ 0) × (call (codes "A") ∷ [] ≡ terms)) ⊎ ((a ≡ 1) × (call (codes "B") ∷ [] ≡ terms)) →
        (d ≡ group 0 (and no_tree (node_of 1 0 (node_of 2 0 (text 0 1))))) ⊎ (d ≡ group 1 (and no_tree (node_of 3 0 (text 0 1))))
    by_number a ds terms p all (inl (n, e)) =
        let z = one_derived depths ab ds (call (codes "A")) 0 1 (subst (λ ts. DerivesAll depths ab ds ts 0 1) (sym e) all) in
        let x = call_of_term depths depths_apart ab z.0 1 (codes "A") (codes "A") (call (codes "C")) 0 1 refl refl z.2 in
        let y = call_of_term depths depths_apart ab x.0 2 (codes "C") (codes "C") (quoted (codes "a")) 0 1 refl refl x.2 in
        inl (cc (p, n, z.1, x.1, y.1, (quoted_is_text depths ab y.0 (codes "a") 0 1 y.2).0))
    by_number a ds terms p all (inr (n, e)) =
        let z = one_derived depths ab ds (call (codes "B")) 0 1 (subst (λ ts. DerivesAll depths ab ds ts 0 1) (sym e) all) in
        let x = call_of_term depths depths_apart ab z.0 3 (codes "B") (codes "B") (quoted (codes "a")) 0 1 refl refl z.2 in
        inr (cc (p, n, z.1, x.1, (quoted_is_text depths ab x.0 (codes "a") 0 1 x.2).0))

    by_alternative : (a : ℕ) × (ds : Trees) × (terms : List Term) × (d ≡ group a ds) × IsAlternative a_or_b a terms × DerivesAll depths ab ds terms 0 1 →
        (d ≡ group 0 (and no_tree (node_of 1 0 (node_of 2 0 (text 0 1))))) ⊎ (d ≡ group 1 (and no_tree (node_of 3 0 (text 0 1))))
    by_alternative (a, ds, terms, p, o, all) = by_number a ds terms p all (one_of_two (call (codes "A") ∷ []) (call (codes "B") ∷ []) a terms o)

pub deeper_or_shallower : (d : Tree) → IsDerivation depths ab d → (d ≡ deeper) ⊎ (d ≡ shallower)
deeper_or_shallower d (a, terms, ds, p, (x, at, o), all) =
    let e : x ≡ rule (codes "S") (alternative (One (Group a_or_b) ∷ call (codes "D") ∷ []) ∷ []) = cc at in
    let y = one_alternative (One (Group a_or_b) ∷ call (codes "D") ∷ []) a terms (subst (λ (z : Rule). IsAlternative z.alts a terms) e o) in
    let (k, c, f, q, hc, hf) = two_derived depths ab ds (One (Group a_or_b)) (call (codes "D")) 0 2 (subst (λ ts. DerivesAll depths ab ds ts 0 2) (sym y.1) all) in
    let w = of_d f k hf in
    by_group c f (cc (p, y.0, q)) w.1 (of_group c (subst (λ (n : ℕ). Derives depths ab c (One (Group a_or_b)) 0 n) w.0 hc))
  where
    by_group : (c f : Tree) → d ≡ node 0 0 (pair c f) → f ≡ node_of 4 0 (node_of 5 0 (node_of 6 0 (text 1 2))) →
        (c ≡ group 0 (and no_tree (node_of 1 0 (node_of 2 0 (text 0 1))))) ⊎ (c ≡ group 1 (and no_tree (node_of 3 0 (text 0 1)))) → (d ≡ deeper) ⊎ (d ≡ shallower)
    by_group c f p q (inl e) = inl (cc (p, q, e))
    by_group c f p q (inr e) = inr (cc (p, q, e))

-- a rule of one literal or one call derives a node
literal_node : (r i j : ℕ) (name cs : List ℕ) → IsNamed depths r name → IsOfRule depths r 0 (quoted cs ∷ []) → StandsAt ab cs i j → Derives depths ab (node_of r 0 (text i j)) (call name) i j
literal_node r i j name cs named o h = ((_, _, refl, named), _, o, refl, (i, _, refl, refl, (refl, refl, inl (_, _, refl, h))))

call_node : (r i j : ℕ) (name other : List ℕ) (d : Tree) → IsNamed depths r name → IsOfRule depths r 0 (call other ∷ []) → Derives depths ab d (call other) i j → Derives depths ab (node_of r 0 d) (call name) i j
call_node r i j name other d named o h = ((_, _, refl, named), _, o, refl, (i, _, refl, refl, h))

d_derives : Derives depths ab (node_of 4 0 (node_of 5 0 (node_of 6 0 (text 1 2)))) (call (codes "D")) 1 2
d_derives =
    let f = literal_node 6 1 2 (codes "F") (codes "b") (_, refl, refl) (_, refl, (_, refl, refl)) (refl, omega arith, refl) in
    let e = call_node 5 1 2 (codes "E") (codes "F") (node_of 6 0 (text 1 2)) (_, refl, refl) (_, refl, (_, refl, refl)) f in
    call_node 4 1 2 (codes "D") (codes "E") (node_of 5 0 (node_of 6 0 (text 1 2))) (_, refl, refl) (_, refl, (_, refl, refl)) e

pub deeper_derives : IsDerivation depths ab deeper
deeper_derives =
    let c = literal_node 2 0 1 (codes "C") (codes "a") (_, refl, refl) (_, refl, (_, refl, refl)) (refl, omega arith, refl) in
    let a = call_node 1 0 1 (codes "A") (codes "C") (node_of 2 0 (text 0 1)) (_, refl, refl) (_, refl, (_, refl, refl)) c in
    (0, _, _, refl, (_, refl, (_, refl, refl)), (refl, (1, _, (0, _, refl, refl, (_, (_, refl, (_, refl, refl)), refl, (0, _, refl, refl, a))), refl, d_derives)))

pub shallower_derives : IsDerivation depths ab shallower
shallower_derives =
    let b = literal_node 3 0 1 (codes "B") (codes "a") (_, refl, refl) (_, refl, (_, refl, refl)) (refl, omega arith, refl) in
    (0, _, _, refl, (_, refl, (_, refl, refl)), (refl, (1, _, (0, _, refl, refl, (_, (_, refl, (_, refl, refl)), refl, (0, _, refl, refl, b))), refl, d_derives)))

pub deeper_is_first : First depths ab deeper
deeper_is_first = first_of_two depths ab deeper shallower deeper_derives deeper_or_shallower (inr (refl, inr (refl, inr (refl, inl (inr (refl, inr (refl, inl (omega arith))))))))

pub shallower_is_not_first : First depths ab shallower → ⊥
shallower_is_not_first = not_first_of_two depths ab deeper shallower deeper_derives (λ e. cc e) (λ b. grind (arith, b))

-- ---- S: a+. a: "x"+.

abbrev xx : List ℕ
xx = codes "xx"

runs_apart : AreApart runs
runs_apart = (refl, (refl, tt))

abbrev run : Factor
run = Call None (codes "a")

abbrev x : Factor
x = literal (codes "x")

-- a list of items with a character at least has one
items_wide : (ds : Repeated) (f : Factor) (i j : ℕ) → ((d : Tree) (k l : ℕ) → Derives runs xx d (One f) k l → k + 1 ≤ l) → Repeats runs xx ds f None i j → i + 1 ≤ j
items_wide (one d) f i j wide h = wide d i j h
items_wide (again ds d) f i j wide h = omega (arith, items_wide ds f i h.1 wide h.2, wide d h.1 j h.3)
items_wide (again_after ds e d) f i j wide h = absurd (cc h.1)

x_wide : (d : Tree) (k l : ℕ) → Derives runs xx d (One x) k l → k + 1 ≤ l
x_wide d k l h = omega (arith, (quoted_is_text runs xx d (codes "x") k l h).1.0)

-- one character is one item
one_character : (ds : Repeated) (i j : ℕ) → i + 1 ≡ j → Repeats runs xx ds x None i j → ds ≡ one (text i j)
one_character (one d) i j w h = ap one (quoted_is_text runs xx d (codes "x") i j h).0
one_character (again ds d) i j w h = absurd (omega (arith, w, items_wide ds x i h.1 x_wide h.2, x_wide d h.1 j h.3))
one_character (again_after ds e d) i j w h = absurd (cc h.1)

-- and two are two items
two_characters : (ds : Repeated) → Repeats runs xx ds x None 0 2 → ds ≡ again (one (text 0 1)) (text 1 2)
two_characters (one d) h = absurd (omega (arith, (quoted_is_text runs xx d (codes "x") 0 2 h).1.0))
two_characters (again ds d) (n, k, front, h) =
    let t = quoted_is_text runs xx d (codes "x") k 2 h in
    let w : k ≡ 1 = omega (arith, t.1.0) in
    cc (t.0, w, one_character ds 0 1 refl (subst (λ (m : ℕ). Repeats runs xx ds x None 0 m) w front))
two_characters (again_after ds e d) h = absurd (cc h.1)

-- `a` derives a list of characters
of_run : (d : Tree) (i j : ℕ) → Derives runs xx d (One run) i j → (ds : Repeated) × (d ≡ node_of 1 0 (list ds)) × Repeats runs xx ds x None i j
of_run d i j h =
    let y = call_of_term runs runs_apart xx d 1 (codes "a") (codes "a") (Plus x None) i j refl refl h in
    let z = plus_derived runs xx y.0 x None i j y.2 in
    (z.0, cc (y.1, z.1), z.2)

run_wide : (d : Tree) (k l : ℕ) → Derives runs xx d (One run) k l → k + 1 ≤ l
run_wide d k l h = let y = of_run d k l h in items_wide y.0 x k l x_wide y.2

one_run_of : (ds : Repeated) (i j : ℕ) → i + 1 ≡ j → Repeats runs xx ds run None i j → ds ≡ one (node_of 1 0 (list (one (text i j))))
one_run_of (one d) i j w h = let y = of_run d i j h in cc (y.1, one_character y.0 i j w y.2)
one_run_of (again ds d) i j w h = absurd (omega (arith, w, items_wide ds run i h.1 run_wide h.2, run_wide d h.1 j h.3))
one_run_of (again_after ds e d) i j w h = absurd (cc h.1)

one_or_two : (ds : Repeated) → Repeats runs xx ds run None 0 2 → (node_of 0 0 (list ds) ≡ one_run) ⊎ (node_of 0 0 (list ds) ≡ two_runs)
one_or_two (one d) h = let y = of_run d 0 2 h in inl (cc (y.1, two_characters y.0 y.2))
one_or_two (again ds d) (n, k, front, h) =
    let w : k ≡ 1 = omega (arith, items_wide ds run 0 k run_wide front, run_wide d k 2 h) in
    let y = of_run d k 2 h in
    let last = one_character y.0 1 2 refl (subst (λ (m : ℕ). Repeats runs xx y.0 x None m 2) w y.2) in
    let before = one_run_of ds 0 1 refl (subst (λ (m : ℕ). Repeats runs xx ds run None 0 m) w front) in
    inr (cc (y.1, last, before))
one_or_two (again_after ds e d) h = absurd (cc h.1)

pub run_or_runs : (d : Tree) → IsDerivation runs xx d → (d ≡ one_run) ⊎ (d ≡ two_runs)
run_or_runs d (a, terms, ds, p, (y, at, o), all) =
    let e : y ≡ rule (codes "S") (alternative (Plus run None ∷ []) ∷ []) = cc at in
    let z = one_alternative (Plus run None ∷ []) a terms (subst (λ (z : Rule). IsAlternative z.alts a terms) e o) in
    let u = one_derived runs xx ds (Plus run None) 0 2 (subst (λ ts. DerivesAll runs xx ds ts 0 2) (sym z.1) all) in
    let v = plus_derived runs xx u.0 run None 0 2 u.2 in
    let q : d ≡ node_of 0 0 (list v.0) = cc (p, z.0, u.1, v.1) in
    subst (λ t. (t ≡ one_run) ⊎ (t ≡ two_runs)) (sym q) (one_or_two v.0 v.2)

x_at : (i j : ℕ) → StandsAt xx (codes "x") i j → Derives runs xx (text i j) (One x) i j
x_at i j h = (refl, refl, inl (_, _, refl, h))

run_of : (ds : Repeated) (i j : ℕ) → Repeats runs xx ds x None i j → Derives runs xx (node_of 1 0 (list ds)) (One run) i j
run_of ds i j h = ((_, _, refl, (_, refl, refl)), _, (_, refl, (_, refl, refl)), refl, (i, _, refl, refl, (_, _, inl refl, h)))

pub one_run_derives : IsDerivation runs xx one_run
one_run_derives =
    let items : Repeats runs xx (again (one (text 0 1)) (text 1 2)) x None 0 2 = (refl, 1, x_at 0 1 (refl, omega arith, refl), x_at 1 2 (refl, omega arith, refl)) in
    (0, _, _, refl, (_, refl, (_, refl, refl)), (refl, (0, _, refl, refl, (run, None, inl refl, run_of (again (one (text 0 1)) (text 1 2)) 0 2 items))))

pub two_runs_derive : IsDerivation runs xx two_runs
two_runs_derive =
    (0, _, _, refl, (_, refl, (_, refl, refl)), (refl, (0, _, refl, refl, (_, _, inl refl, (refl, 1, run_of (one (text 0 1)) 0 1 (x_at 0 1 (refl, omega arith, refl)), run_of (one (text 1 2)) 1 2 (x_at 1 2 (refl, omega arith, refl)))))))

pub one_run_is_first : First runs xx one_run
one_run_is_first = first_of_two runs xx one_run two_runs one_run_derives run_or_runs (inr (refl, inr (refl, inr (refl, inr (refl, tt)))))

pub two_runs_are_not_first : First runs xx two_runs → ⊥
two_runs_are_not_first = not_first_of_two runs xx one_run two_runs one_run_derives (λ e. cc e) (λ b. grind (arith, b))
