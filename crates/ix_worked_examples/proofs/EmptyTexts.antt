-- All derivations of small texts from options, repetitions and lists with separators.
use Rattle.std.proofs.Common.{◌≡◌, ◌≢◌, refl, ap, sym, subst, ◌∙◌, ◌⊎◌, ◌+◌, ◌≤◌, ℕ, zero, suc, List, [], ◌∷◌, None, Some, length, codes, arith}
use mathlib.Core.Logic.{inl, inr}
use Rattle.ix_model.specs.declared.grammar.Grammar.{Grammar}
use Rattle.ix_model.specs.declared.grammar.Term.{Term, One, Opt, Star, Plus}
use Rattle.ix_model.specs.declared.grammar.Factor.{Factor}
use Rattle.ix_model.specs.Matching.Terminals.{StandsAt}
use Rattle.ix_model.specs.Derivations.Trees.{Tree, text, insertion, node, present, absent, no_item, list, no_tree, and, Repeated, one, again, again_after, width}
use Rattle.ix_model.specs.Derivations.Derives.{Derives, DerivesAll, Repeats, IsDerivation, Ambiguous}
use Rattle.ix_model.specs.Derivations.Heights.{height}
use Rattle.ix_model.specs.Derivations.Order.{Before, First}
use Rattle.ix_examples.specs.SmallGrammars.{alternative, literal, quoted, insertion_of, empty, of_term, both, a_or_b, commas}
use Rattle.ix_examples.specs.SmallTrees.{node_of, chosen, two_items, separated}
use Rattle.ix_examples.proofs.Inversions.{quoted_is_text, insertion_is_empty, group_is_alternative, option_derived, star_derived, plus_derived, none_derived, one_alternative, of_only_rule}
use Rattle.ix_examples.proofs.SmallTexts.{first, of_one_term, by_one_term}
use Rattle.ix_tree_laws.proofs.Widths.{repeated_width_is}
use Rattle.ix_worked_examples.proofs.FirstTexts.{first_of_two}

-- a text has no second derivation where each is this tree
pub only_one : (g : Grammar) (s : List ℕ) (d : Tree) → ((e : Tree) → IsDerivation g s e → e ≡ d) → ¬ (Ambiguous g s)
only_one g s d all (e, f, he, hf, n) = n (all e he ∙ sym (all f hf))

-- ---- an empty literal, within an option and as an item

abbrev pub nothing : Factor
nothing = literal []

module _ (g : Grammar) where
  pub empty_text : Derives g [] (text 0 0) (One nothing) 0 0
  empty_text = (refl, refl, inl (_, _, refl, (refl, omega arith, refl)))

  is_empty_text : (d : Tree) → Derives g [] d (One nothing) 0 0 → d ≡ text 0 0
  is_empty_text d h = (quoted_is_text g [] d [] 0 0 h).0

pub present_derives : IsDerivation (of_term (Opt nothing)) [] (node_of 0 0 (present (text 0 0)))
present_derives = by_one_term (Opt nothing) [] (present (text 0 0)) (nothing, refl, empty_text (of_term (Opt nothing)))

pub absent_derives : (f : Factor) → IsDerivation (of_term (Opt f)) [] (node_of 0 0 absent)
absent_derives f = by_one_term (Opt f) [] absent (f, refl, refl)

pub no_item_derives : (f : Factor) → IsDerivation (of_term (Star f None)) [] (node_of 0 0 no_item)
no_item_derives f = by_one_term (Star f None) [] no_item (f, None, refl, refl)

pub item_derives : IsDerivation (of_term (Star nothing None)) [] (node_of 0 0 (list (one (text 0 0))))
item_derives = by_one_term (Star nothing None) [] (list (one (text 0 0))) (nothing, None, inr refl, empty_text (of_term (Star nothing None)))

pub one_derives : IsDerivation (of_term (Plus nothing None)) [] (node_of 0 0 (list (one (text 0 0))))
one_derives = by_one_term (Plus nothing None) [] (list (one (text 0 0))) (nothing, None, inl refl, empty_text (of_term (Plus nothing None)))

pub two_derive : IsDerivation (of_term (Plus nothing None)) [] (node_of 0 0 (two_items (text 0 0) (text 0 0)))
two_derive = by_one_term (Plus nothing None) [] (two_items (text 0 0) (text 0 0)) (nothing, None, inl refl, (refl, 0, empty_text (of_term (Plus nothing None)), empty_text (of_term (Plus nothing None))))

pub only_empty_text : (d : Tree) → IsDerivation (of_term (One nothing)) [] d → d ≡ node_of 0 0 (text 0 0)
only_empty_text d h =
    let x = of_one_term (One nothing) [] d h in
    cc (x.1, is_empty_text (of_term (One nothing)) x.0 x.2)

pub single_empty_text : ¬ (Ambiguous (of_term (One nothing)) [])
single_empty_text = only_one (of_term (One nothing)) [] (node_of 0 0 (text 0 0)) only_empty_text

-- what an option of it derives
there_or_absent : (d : Tree) → IsDerivation (of_term (Opt nothing)) [] d → (d ≡ node_of 0 0 (present (text 0 0))) ⊎ (d ≡ node_of 0 0 absent)
there_or_absent d h = by_form (of_one_term (Opt nothing) [] d h)
  where
    by_form : (e : Tree) × (d ≡ node_of 0 0 e) × Derives (of_term (Opt nothing)) [] e (Opt nothing) 0 0 → (d ≡ node_of 0 0 (present (text 0 0))) ⊎ (d ≡ node_of 0 0 absent)
    by_form (e, p, k) = by_option (option_derived (of_term (Opt nothing)) [] e nothing 0 0 k)
      where
        by_option : ((e ≡ absent) × ◌≡◌ {A = ℕ} 0 0) ⊎ ((f : Tree) × (e ≡ present f) × Derives (of_term (Opt nothing)) [] f (One nothing) 0 0) → (d ≡ node_of 0 0 (present (text 0 0))) ⊎ (d ≡ node_of 0 0 absent)
        by_option (inl (q, z)) = inr (cc (p, q))
        by_option (inr (f, q, m)) = inl (cc (p, q, is_empty_text (of_term (Opt nothing)) f m))

pub present_is_first : First (of_term (Opt nothing)) [] (node_of 0 0 (present (text 0 0)))
present_is_first = first_of_two (of_term (Opt nothing)) [] (node_of 0 0 (present (text 0 0))) (node_of 0 0 absent) present_derives there_or_absent (inr (refl, inr (refl, inr (refl, inr (refl, tt)))))

-- a tree without height that is before another of its width stays so within a node
low_is_before : (d e : Tree) → height d ≡ 0 → width d ≡ width e → Before d e 0 → Before (node_of 0 0 d) (node_of 0 0 e) 0
low_is_before d e low wide b = by_height (height e) refl
  where
    by_height : (n : ℕ) → height e ≡ n → Before (node_of 0 0 d) (node_of 0 0 e) 0
    by_height zero h = inr (omega (arith, low, h), inr (refl, inr (wide, inr (refl, b))))
    by_height (suc n) h = inl (omega (arith, low, h))

-- a star without an item is before all that have one
pub no_item_is_first : First (of_term (Star nothing None)) [] (node_of 0 0 no_item)
no_item_is_first = (no_item_derives nothing, λ d h n. by_form d n (of_one_term (Star nothing None) [] d h))
  where
    by_form : (d : Tree) → d ≢ node_of 0 0 no_item → (e : Tree) × (d ≡ node_of 0 0 e) × Derives (of_term (Star nothing None)) [] e (Star nothing None) 0 0 → Before (node_of 0 0 no_item) d 0
    by_form d n (e, p, k) = by_star (star_derived (of_term (Star nothing None)) [] e nothing None 0 0 k)
      where
        by_star : ((e ≡ no_item) × ◌≡◌ {A = ℕ} 0 0) ⊎ ((ds : Repeated) × (e ≡ list ds) × Repeats (of_term (Star nothing None)) [] ds nothing None 0 0) → Before (node_of 0 0 no_item) d 0
        by_star (inl (q, z)) = absurd (n (cc (p, q)))
        by_star (inr (ds, q, m)) = subst (λ t. Before (node_of 0 0 no_item) t 0) (sym {b = node_of 0 0 (list ds)} (cc (p, q))) (low_is_before no_item (list ds) refl (omega (arith, repeated_width_is (of_term (Star nothing None)) [] ds nothing None 0 0 m)) tt)

-- and a plus with one item before all that have more
pub one_is_first : First (of_term (Plus nothing None)) [] (node_of 0 0 (list (one (text 0 0))))
one_is_first = (one_derives, λ d h n. by_form d n (of_one_term (Plus nothing None) [] d h))
  where
    by_form : (d : Tree) → d ≢ node_of 0 0 (list (one (text 0 0))) → (e : Tree) × (d ≡ node_of 0 0 e) × Derives (of_term (Plus nothing None)) [] e (Plus nothing None) 0 0 → Before (node_of 0 0 (list (one (text 0 0)))) d 0
    by_form d n (e, p, k) = let x = plus_derived (of_term (Plus nothing None)) [] e nothing None 0 0 k in by_items x.0 (cc (p, x.1)) x.2
      where
        by_items : (ds : Repeated) → d ≡ node_of 0 0 (list ds) → Repeats (of_term (Plus nothing None)) [] ds nothing None 0 0 → Before (node_of 0 0 (list (one (text 0 0)))) d 0
        by_items (one f) q m = absurd (n (cc (q, is_empty_text (of_term (Plus nothing None)) f m)))
        by_items (again ds f) q m = subst (λ t. Before (node_of 0 0 (list (one (text 0 0)))) t 0) (sym q) (low_is_before (list (one (text 0 0))) (list (again ds f)) refl (omega (arith, repeated_width_is (of_term (Plus nothing None)) [] (again ds f) nothing None 0 0 m)) tt)
        by_items (again_after ds c f) q m = absurd (cc m.1)

-- ---- a literal of one character

abbrev a : Factor
a = literal (codes "a")

no_a : (g : Grammar) (d : Tree) (i : ℕ) → Derives g [] d (One a) i 0 → ⊥
no_a g d i h = omega (arith, (quoted_is_text g [] d (codes "a") i 0 h).1.0)

no_items : (g : Grammar) (ds : Repeated) (i : ℕ) → Repeats g [] ds a None i 0 → ⊥
no_items g (one d) i h = no_a g d i h
no_items g (again ds d) i h = no_a g d h.1 h.3
no_items g (again_after ds e d) i h = cc h.1

pub only_absent : (d : Tree) → IsDerivation (of_term (Opt a)) [] d → d ≡ node_of 0 0 absent
only_absent d h = by_form (of_one_term (Opt a) [] d h)
  where
    by_form : (e : Tree) × (d ≡ node_of 0 0 e) × Derives (of_term (Opt a)) [] e (Opt a) 0 0 → d ≡ node_of 0 0 absent
    by_form (e, p, k) = by_option (option_derived (of_term (Opt a)) [] e a 0 0 k)
      where
        by_option : ((e ≡ absent) × ◌≡◌ {A = ℕ} 0 0) ⊎ ((f : Tree) × (e ≡ present f) × Derives (of_term (Opt a)) [] f (One a) 0 0) → d ≡ node_of 0 0 absent
        by_option (inl (q, z)) = cc (p, q)
        by_option (inr (f, q, m)) = absurd (no_a (of_term (Opt a)) f 0 m)

pub only_no_item : (d : Tree) → IsDerivation (of_term (Star a None)) [] d → d ≡ node_of 0 0 no_item
only_no_item d h = by_form (of_one_term (Star a None) [] d h)
  where
    by_form : (e : Tree) × (d ≡ node_of 0 0 e) × Derives (of_term (Star a None)) [] e (Star a None) 0 0 → d ≡ node_of 0 0 no_item
    by_form (e, p, k) = by_star (star_derived (of_term (Star a None)) [] e a None 0 0 k)
      where
        by_star : ((e ≡ no_item) × ◌≡◌ {A = ℕ} 0 0) ⊎ ((ds : Repeated) × (e ≡ list ds) × Repeats (of_term (Star a None)) [] ds a None 0 0) → d ≡ node_of 0 0 no_item
        by_star (inl (q, z)) = cc (p, q)
        by_star (inr (ds, q, m)) = absurd (no_items (of_term (Star a None)) ds 0 m)

pub none_of_plus : (d : Tree) → IsDerivation (of_term (Plus a None)) [] d → ⊥
none_of_plus d h =
    let x = of_one_term (Plus a None) [] d h in
    let y = plus_derived (of_term (Plus a None)) [] x.0 a None 0 0 x.2 in
    no_items (of_term (Plus a None)) y.0 0 y.2

pub only_no_tree : (d : Tree) → IsDerivation empty [] d → d ≡ node 0 0 no_tree
only_no_tree d (n, terms, ds, p, o, all) =
    let x = one_alternative [] n terms (of_only_rule (codes "S") (alternative [] ∷ []) n terms o) in
    let y = none_derived empty [] ds 0 0 (subst (λ ts. DerivesAll empty [] ds ts 0 0) (sym x.1) all) in
    cc (p, x.0, y.0)

pub single_absent : ¬ (Ambiguous (of_term (Opt a)) [])
single_absent = only_one (of_term (Opt a)) [] (node_of 0 0 absent) only_absent

pub single_no_item : ¬ (Ambiguous (of_term (Star a None)) [])
single_no_item = only_one (of_term (Star a None)) [] (node_of 0 0 no_item) only_no_item

pub single_no_tree : ¬ (Ambiguous empty [])
single_no_tree = only_one empty [] (node 0 0 no_tree) only_no_tree

-- ---- insertions

pub insertion_alone : IsDerivation (of_term (Plus (insertion_of (codes "x")) None)) [] (node_of 0 0 (list (one insertion)))
insertion_alone = by_one_term (Plus (insertion_of (codes "x")) None) [] (list (one insertion)) (_, None, inl refl, (refl, (_, refl)))

pub insertion_twice : IsDerivation (of_term (Plus (insertion_of (codes "x")) None)) [] (node_of 0 0 (two_items insertion insertion))
insertion_twice = by_one_term (Plus (insertion_of (codes "x")) None) [] (two_items insertion insertion) (_, None, inl refl, (refl, 0, (refl, (_, refl)), (refl, (_, refl))))

pub no_width : (d : Tree) → IsDerivation (of_term (One (insertion_of (codes "x")))) (codes "x") d → ⊥
no_width d h =
    let x = of_one_term (One (insertion_of (codes "x"))) (codes "x") d h in
    omega (arith, insertion_is_empty (of_term (One (insertion_of (codes "x")))) (codes "x") x.0 (codes "x") 0 1 x.2)

-- ---- separators

a_at : (g : Grammar) (s : List ℕ) (i j : ℕ) → StandsAt s (codes "a") i j → Derives g s (text i j) (One a) i j
a_at g s i j h = (refl, refl, inl (_, _, refl, h))

module _ (g : Grammar) where
  b_by_group : Derives g (codes "aba") (chosen 1 1 2) (One a_or_b) 1 2
  b_by_group = (_, (_, refl, (_, refl, refl)), refl, (1, _, refl, refl, (refl, refl, inl (_, _, refl, (refl, omega arith, refl)))))

  pub with_group : Repeats g (codes "aba") (again_after (one (text 0 1)) (chosen 1 1 2) (text 2 3)) a (Some a_or_b) 0 3
  with_group = (a_or_b, refl, 1, 2, a_at g (codes "aba") 0 1 (refl, omega arith, refl), b_by_group, a_at g (codes "aba") 2 3 (refl, omega arith, refl))

  pub with_insertion : Repeats g (codes "aa") (again_after (one (text 0 1)) insertion (text 1 2)) a (Some (insertion_of (codes "x"))) 0 2
  with_insertion = (insertion_of (codes "x"), refl, 1, 1, a_at g (codes "aa") 0 1 (refl, omega arith, refl), (refl, (_, refl)), a_at g (codes "aa") 1 2 (refl, omega arith, refl))

abbrev comma : Factor
comma = literal (codes ",")

module _ (s : List ℕ) where
  abbrev AreItems : Repeated → ℕ → ℕ → Type 0
  AreItems ds i j = Repeats (of_term commas) s ds a (Some comma) i j

  a_is_text : (d : Tree) (i j : ℕ) → Derives (of_term commas) s d (One a) i j → (d ≡ text i j) × StandsAt s (codes "a") i j
  a_is_text d i j h = quoted_is_text (of_term commas) s d (codes "a") i j h

  comma_is_text : (d : Tree) (p : Factor) (i j : ℕ) → Some comma ≡ Some p → Derives (of_term commas) s d (One p) i j → (d ≡ text i j) × StandsAt s (codes ",") i j
  comma_is_text d p i j e h =
      let q : p ≡ comma = sym {b = p} (cc e) in
      quoted_is_text (of_term commas) s d (codes ",") i j (subst (λ f. Derives (of_term commas) s d (One f) i j) q h)

  items_wide : (ds : Repeated) (i j : ℕ) → AreItems ds i j → i + 1 ≤ j
  items_wide (one d) i j h = omega (arith, (a_is_text d i j h).1.0)
  items_wide (again ds d) i j h = absurd (cc h.0)
  items_wide (again_after ds e d) i j (p, q, k, l, front, between, last) =
      omega (arith, items_wide ds i k front, (comma_is_text e p k l q between).1.0, (a_is_text d l j last).1.0)

  -- the last item stands at the end
  last_stands : (ds : Repeated) (i j : ℕ) → AreItems ds i j → (k : ℕ) × StandsAt s (codes "a") k j
  last_stands (one d) i j h = (i, (a_is_text d i j h).1)
  last_stands (again ds d) i j h = absurd (cc h.0)
  last_stands (again_after ds e d) i j (p, q, k, l, front, between, last) = (l, (a_is_text d l j last).1)

  one_item : (ds : Repeated) (i j : ℕ) → i + 1 ≡ j → AreItems ds i j → ds ≡ one (text i j)
  one_item (one d) i j w h = ap one (a_is_text d i j h).0
  one_item (again ds d) i j w h = absurd (cc h.0)
  one_item (again_after ds e d) i j w (p, q, k, l, front, between, last) =
      absurd (omega (arith, w, items_wide ds i k front, (comma_is_text e p k l q between).1.0, (a_is_text d l j last).1.0))

  -- two characters are no list, and three are two items
  no_two : (ds : Repeated) → AreItems ds 0 2 → ⊥
  no_two (one d) h = omega (arith, (a_is_text d 0 2 h).1.0)
  no_two (again ds d) h = cc h.0
  no_two (again_after ds e d) (p, q, k, l, front, between, last) =
      omega (arith, items_wide ds 0 k front, (comma_is_text e p k l q between).1.0, (a_is_text d l 2 last).1.0)

  two_of_three : (ds : Repeated) → AreItems ds 0 3 → (ds ≡ again_after (one (text 0 1)) (text 1 2) (text 2 3)) × StandsAt s (codes ",") 1 2
  two_of_three (one d) h = absurd (omega (arith, (a_is_text d 0 3 h).1.0))
  two_of_three (again ds d) h = absurd (cc h.0)
  two_of_three (again_after ds e d) (p, q, k, l, front, between, last) =
      let x = a_is_text d l 3 last in
      let v : l ≡ 2 = omega (arith, x.1.0) in
      let w : k ≡ 1 = omega (arith, v, (comma_is_text e p k l q between).1.0) in
      let y = comma_is_text e p 1 2 q (subst (λ (n : ℕ). Derives (of_term commas) s e (One p) n 2) w (subst (λ (n : ℕ). Derives (of_term commas) s e (One p) k n) v between)) in
      (cc (x.0, y.0, v, one_item ds 0 1 refl (subst (λ (n : ℕ). AreItems ds 0 n) w front)), y.1)

  -- a derivation is a list of items
  pub items_of : (d : Tree) → IsDerivation (of_term commas) s d → (ds : Repeated) × (d ≡ node_of 0 0 (list ds)) × AreItems ds 0 (length s)
  items_of d h =
      let x = of_one_term commas s d h in
      let y = plus_derived (of_term commas) s x.0 a (Some comma) 0 (length s) x.2 in
      (y.0, cc (x.1, y.1), y.2)

pub between_two : (d : Tree) → IsDerivation (of_term commas) (codes "a,a") d → d ≡ node_of 0 0 (separated (text 0 1) (text 1 2) (text 2 3))
between_two d h = let x = items_of (codes "a,a") d h in cc (x.1, (two_of_three (codes "a,a") x.0 x.2).0)

pub none_other : (d : Tree) → IsDerivation (of_term commas) (codes "a;a") d → ⊥
none_other d h = let x = items_of (codes "a;a") d h in omega (arith, ap first (two_of_three (codes "a;a") x.0 x.2).1.2)

pub none_behind : (d : Tree) → IsDerivation (of_term commas) (codes "a,a,") d → ⊥
none_behind d h =
    let x = items_of (codes "a,a,") d h in
    let (k, (w, b, e)) = last_stands (codes "a,a,") x.0 0 4 x.2 in
    let n : k ≡ 3 = omega (arith, w) in
    omega (arith, ap first (subst (λ (m : ℕ). StandsAt (codes "a,a,") (codes "a") m 4) n (w, b, e)).2)

pub none_of_two : (s : List ℕ) (d : Tree) → length s ≡ 2 → IsDerivation (of_term commas) s d → ⊥
none_of_two s d w h = let x = items_of s d h in no_two s x.0 (subst (λ (n : ℕ). AreItems s x.0 0 n) w x.2)

-- ---- a group of two terms

abbrev pairs : Grammar
pairs = of_term (One (both (quoted (codes "a")) (quoted [])))

pub tree_missing : IsDerivation (of_term (One (both (quoted (codes "a")) (quoted [])))) (codes "a") (node_of 0 0 (chosen 0 0 1)) → ⊥
tree_missing h =
    let x = of_one_term (One (both (quoted (codes "a")) (quoted []))) (codes "a") (node_of 0 0 (chosen 0 0 1)) h in
    let e : x.0 ≡ chosen 0 0 1 = cc x.1 in
    counted (subst (λ t. Derives pairs (codes "a") t (One (both (quoted (codes "a")) (quoted []))) 0 1) e x.2)
  where
    counted : Derives pairs (codes "a") (chosen 0 0 1) (One (both (quoted (codes "a")) (quoted []))) 0 1 → ⊥
    counted k =
        let y = group_is_alternative pairs (codes "a") 0 (and no_tree (text 0 1)) (alternative (quoted (codes "a") ∷ quoted [] ∷ []) ∷ []) 0 1 k in
        let z = one_alternative (quoted (codes "a") ∷ quoted [] ∷ []) 0 y.0 y.1 in
        omega (arith, y.2.0, ap (λ (ts : List Term). length ts) z.1)
