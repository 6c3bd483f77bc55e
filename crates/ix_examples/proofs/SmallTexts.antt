-- All derivations of the small texts of the worked examples.
use Rattle.std.proofs.Common.{◌≡◌, refl, ap, sym, subst, ◌⊎◌, ◌≤◌, ℕ, List, [], ◌∷◌, None, length, codes, arith}
use mathlib.Core.Logic.{inl, inr}
use Rattle.ix_model.specs.declared.grammar.Grammar.{Grammar}
use Rattle.ix_model.specs.declared.grammar.Alt.{Alt}
use Rattle.ix_model.specs.declared.grammar.Term.{Term, One}
use Rattle.ix_model.specs.Grammars.Written.{IsAlternative}
use Rattle.ix_model.specs.Matching.Terminals.{StandsAt}
use Rattle.ix_model.specs.Derivations.Trees.{Tree, text, node, group, Trees, no_tree, and}
use Rattle.ix_model.specs.Derivations.Heights.{height}
use Rattle.ix_model.specs.Derivations.Derives.{Derives, DerivesAll, IsDerivation}
use Rattle.ix_examples.specs.SmallGrammars.{alternative, quoted, call, of_term, a_or_b, only_a, two_ways, cycle, empty}
use Rattle.ix_examples.specs.SmallTrees.{node_of, a_tree}
use Rattle.ix_examples.proofs.Inversions.{one_alternative, one_of_two, of_only_rule, quoted_is_text, group_is_alternative, none_derived, one_derived}
use Rattle.ix_model.proofs.Forms.{call_is_node}

abbrev a_alone : List Term
a_alone = quoted (codes "a") ∷ []

abbrev s_alone : List Term
s_alone = call (codes "S") ∷ []

abbrev a_or_b_alts : List Alt
a_or_b_alts = alternative a_alone ∷ alternative (quoted (codes "b") ∷ []) ∷ []

-- the first of some numbers
abbrev pub first : List ℕ → ℕ
first [] = 0
first (x ∷ xs) = x

-- a grammar of one term derives one tree of that term
pub of_one_term : (t : Term) (s : List ℕ) (d : Tree) → IsDerivation (of_term t) s d → (e : Tree) × (d ≡ node_of 0 0 e) × Derives (of_term t) s e t 0 (length s)
of_one_term t s d (a, terms, ds, p, o, all) =
    let x = one_alternative (t ∷ []) a terms (of_only_rule (codes "S") (alternative (t ∷ []) ∷ []) a terms o) in
    let h = one_derived (of_term t) s ds t 0 (length s) (subst (λ ts. DerivesAll (of_term t) s ds ts 0 (length s)) (sym x.1) all) in
    (h.0, cc (p, x.0, h.1), h.2)

-- and a tree of that term is a derivation
pub by_one_term : (t : Term) (s : List ℕ) (d : Tree) → Derives (of_term t) s d t 0 (length s) → IsDerivation (of_term t) s (node_of 0 0 d)
by_one_term t s d h = (0, t ∷ [], and no_tree d, refl, (_, refl, (_, refl, refl)), (refl, (0, t, refl, refl, h)))

-- `S: "a".` derives one character
pub one_a : (s : List ℕ) (d : Tree) → IsDerivation only_a s d → (d ≡ node_of 0 0 (text 0 (length s))) × StandsAt s (codes "a") 0 (length s)
one_a s d h =
    let x = of_one_term (quoted (codes "a")) s d h in
    let y = quoted_is_text only_a s x.0 (codes "a") 0 (length s) x.2 in
    (cc (x.1, y.0), y.1)

abbrev choice : Grammar
choice = of_term (One a_or_b)

abbrev by_a : Trees
by_a = and no_tree (text 0 1)

-- the first alternative of `("a"; "b")` does not derive `b`
pub not_by_a : IsDerivation choice (codes "b") (node_of 0 0 (group 0 by_a)) → ⊥
not_by_a d =
    let x = of_one_term (One a_or_b) (codes "b") (node_of 0 0 (group 0 by_a)) d in
    let e : x.0 ≡ group 0 by_a = cc x.1 in
    stands_not (subst (λ t. Derives choice (codes "b") t (One a_or_b) 0 1) e x.2)
  where
    terms_are_a : (terms : List Term) → IsAlternative a_or_b_alts 0 terms → terms ≡ a_alone
    terms_are_a terms h = cc (h.1, h.2)

    stands_not : Derives choice (codes "b") (group 0 by_a) (One a_or_b) 0 1 → ⊥
    stands_not h =
        let y = group_is_alternative choice (codes "b") 0 by_a a_or_b_alts 0 1 h in
        let all : DerivesAll choice (codes "b") by_a a_alone 0 1 = subst (λ ts. DerivesAll choice (codes "b") by_a ts 0 1) (terms_are_a y.0 y.1) y.2 in
        let z = one_derived choice (codes "b") by_a (quoted (codes "a")) 0 1 all in
        let u = quoted_is_text choice (codes "b") z.0 (codes "a") 0 1 z.2 in
        omega (arith, ap first u.1.2)

-- `S: .` derives the empty text
pub only_empty : (s : List ℕ) (d : Tree) → IsDerivation empty s d → length s ≡ 0
only_empty s d (a, terms, ds, p, o, all) =
    let x = one_alternative [] a terms (of_only_rule (codes "S") (alternative [] ∷ []) a terms o) in
    let y = none_derived empty s ds 0 (length s) (subst (λ ts. DerivesAll empty s ds ts 0 (length s)) (sym x.1) all) in
    sym y.1

-- `S: "a"; "a".` derives one character, by either alternative
pub either_a : (s : List ℕ) (d : Tree) → IsDerivation two_ways s d → ((d ≡ node_of 0 0 (text 0 (length s))) ⊎ (d ≡ node_of 0 1 (text 0 (length s)))) × StandsAt s (codes "a") 0 (length s)
either_a s d (a, terms, ds, p, o, all) = by_number (one_of_two a_alone a_alone a terms (of_only_rule (codes "S") (alternative a_alone ∷ alternative a_alone ∷ []) a terms o))
  where
    trees : a_alone ≡ terms → (ds ≡ and no_tree (text 0 (length s))) × StandsAt s (codes "a") 0 (length s)
    trees e =
        let h = one_derived two_ways s ds (quoted (codes "a")) 0 (length s) (subst (λ ts. DerivesAll two_ways s ds ts 0 (length s)) (sym e) all) in
        let y = quoted_is_text two_ways s h.0 (codes "a") 0 (length s) h.2 in
        (cc (h.1, y.0), y.1)

    by_number : ((a ≡ 0) × (a_alone ≡ terms)) ⊎ ((a ≡ 1) × (a_alone ≡ terms)) → ((d ≡ node_of 0 0 (text 0 (length s))) ⊎ (d ≡ node_of 0 1 (text 0 (length s)))) × StandsAt s (codes "a") 0 (length s)
    by_number (inl (n, e)) = let x = trees e in (inl (cc (p, n, x.0)), x.1)
    by_number (inr (n, e)) = let x = trees e in (inr (cc (p, n, x.0)), x.1)

-- `S: S; "a".` derives one character, or what a tree of it derives
pub around_or_a : (s : List ℕ) (d : Tree) → IsDerivation cycle s d → ((e : Tree) × (d ≡ node_of 0 0 e) × (1 ≤ height e)) ⊎ (d ≡ node_of 0 1 (text 0 (length s)))
around_or_a s d (a, terms, ds, p, o, all) = by_number (one_of_two s_alone a_alone a terms (of_only_rule (codes "S") (alternative s_alone ∷ alternative a_alone ∷ []) a terms o))
  where
    by_number : ((a ≡ 0) × (s_alone ≡ terms)) ⊎ ((a ≡ 1) × (a_alone ≡ terms)) → ((e : Tree) × (d ≡ node_of 0 0 e) × (1 ≤ height e)) ⊎ (d ≡ node_of 0 1 (text 0 (length s)))
    by_number (inl (n, e)) =
        let h = one_derived cycle s ds (call (codes "S")) 0 (length s) (subst (λ ts. DerivesAll cycle s ds ts 0 (length s)) (sym e) all) in
        let y = call_is_node cycle s h.0 None (codes "S") 0 (length s) h.2 in
        inl (h.0, cc (p, n, h.1), subst (λ x. 1 ≤ height x) (sym y.4) (omega arith))
    by_number (inr (n, e)) =
        let h = one_derived cycle s ds (quoted (codes "a")) 0 (length s) (subst (λ ts. DerivesAll cycle s ds ts 0 (length s)) (sym e) all) in
        let y = quoted_is_text cycle s h.0 (codes "a") 0 (length s) h.2 in
        inr (cc (p, n, h.1, y.0))

-- a derivation of the cycle stands in another
pub around : (s : List ℕ) (d : Tree) → IsDerivation cycle s d → IsDerivation cycle s (node_of 0 0 d)
around s d (a, terms, ds, p, o, all) =
    let whole : Derives cycle s (node 0 a ds) (call (codes "S")) 0 (length s) = ((_, _, refl, (_, refl, refl)), terms, o, all.0, all.1) in
    (0, _, _, refl, (_, refl, (_, refl, refl)), (refl, (0, _, refl, refl, subst (λ t. Derives cycle s t (call (codes "S")) 0 (length s)) (sym p) whole)))

pub a_derives : IsDerivation only_a (codes "a") a_tree
a_derives = (0, _, _, refl, (_, refl, (_, refl, refl)), (refl, (0, _, refl, refl, (refl, refl, inl (_, _, refl, (refl, omega arith, refl))))))

pub earlier_derives : IsDerivation two_ways (codes "a") (node_of 0 0 (text 0 1))
earlier_derives = (0, _, _, refl, (_, refl, (_, refl, refl)), (refl, (0, _, refl, refl, (refl, refl, inl (_, _, refl, (refl, omega arith, refl))))))

pub later_derives : IsDerivation two_ways (codes "a") (node_of 0 1 (text 0 1))
later_derives = (1, _, _, refl, (_, refl, (_, refl, refl)), (refl, (0, _, refl, refl, (refl, refl, inl (_, _, refl, (refl, omega arith, refl))))))

pub within_derives : IsDerivation cycle (codes "a") (node_of 0 1 (text 0 1))
within_derives = (1, _, _, refl, (_, refl, (_, refl, refl)), (refl, (0, _, refl, refl, (refl, refl, inl (_, _, refl, (refl, omega arith, refl))))))
