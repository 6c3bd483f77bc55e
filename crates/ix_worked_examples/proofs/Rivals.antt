-- The derivations of `a` under the grammars of the worked uses of the law.
use Rattle.std.proofs.Common.{◌≡◌, refl, ap, sym, subst, ◌∙◌, ◌⊎◌, ◌≤◌, ℕ, zero, suc, List, [], ◌∷◌, None, codes, arith}
use mathlib.Core.Logic.{inl, inr}
use Rattle.ix_model.specs.declared.grammar.Rule.{Rule}
use Rattle.ix_model.specs.declared.grammar.Term.{Term}
use Rattle.ix_model.specs.Grammars.Written.{IsNamed, IsAlternative, IsOfRule}
use Rattle.ix_model.specs.Derivations.Trees.{Tree, text}
use Rattle.ix_model.specs.Derivations.Heights.{height}
use Rattle.ix_model.specs.Derivations.Derives.{Derives, DerivesAll, IsDerivation}
use Rattle.ix_model.specs.Derivations.Order.{Before, First}
use Rattle.ix_model.specs.Grammars.Names.{HasUniqueNames}
use Rattle.ix_examples.specs.SmallGrammars.{alternative, rule, quoted, call, cycle}
use Rattle.ix_examples.specs.SmallTrees.{node_of}
use Rattle.ix_worked_examples.specs.Rivals.{a_rule, rivals, by_rule}
use Rattle.ix_tree_laws.specs.Choice.{FirstExists}
use Rattle.ix_tree_laws.proofs.Once.{first_is_one}
use Rattle.ix_examples.proofs.Inversions.{one_alternative, quoted_is_text, one_derived}
use Rattle.ix_model.proofs.Forms.{call_is_node}
use Rattle.ix_examples.proofs.SmallTexts.{first, around, within_derives}
use Rattle.ix_worked_examples.proofs.Called.{unique_names}
use Rattle.ix_worked_examples.proofs.FirstTexts.{within_is_first}

-- ---- S: S; "a".

pub cycle_is_unique : HasUniqueNames cycle
cycle_is_unique = unique_names cycle (refl, tt)

-- each derivation stands in a higher one
pub as_high : (n : ℕ) → (d : Tree) × IsDerivation cycle (codes "a") d × (n ≤ height d)
as_high zero = (node_of 0 1 (text 0 1), within_derives, omega arith)
as_high (suc n) = let (d, h, high) = as_high n in (node_of 0 0 d, around (codes "a") d h, omega (arith, high))

pub first_is_literal : (law : FirstExists) (d : Tree) (u : HasUniqueNames cycle) (h : IsDerivation cycle (codes "a") d) → (law cycle (codes "a") d u h).0 ≡ node_of 0 1 (text 0 1)
first_is_literal law d u h = first_is_one cycle (codes "a") (law cycle (codes "a") d u h).0 (node_of 0 1 (text 0 1)) (law cycle (codes "a") d u h).1 within_is_first

-- ---- S: A. A: "a". A: "a".

abbrev call_a : List Term
call_a = call (codes "A") ∷ []

abbrev a_alone : List Term
a_alone = quoted (codes "a") ∷ []

pub one_derives : IsDerivation rivals (codes "a") (by_rule 1)
one_derives = (0, _, _, refl, (_, refl, (_, refl, refl)), (refl, (0, _, refl, refl, ((_, _, refl, (a_rule, refl, refl)), _, (_, refl, (_, refl, refl)), refl, (0, _, refl, refl, (refl, refl, inl (_, _, refl, (refl, omega arith, refl))))))))

pub other_derives : IsDerivation rivals (codes "a") (by_rule 2)
other_derives = (0, _, _, refl, (_, refl, (_, refl, refl)), (refl, (0, _, refl, refl, ((_, _, refl, (a_rule, refl, refl)), _, (_, refl, (_, refl, refl)), refl, (0, _, refl, refl, (refl, refl, inl (_, _, refl, (refl, omega arith, refl))))))))

-- a rule with the name A is one of two, and has one alternative
named_a : (r a : ℕ) (terms : List Term) → IsNamed rivals r (codes "A") → IsOfRule rivals r a terms → ((r ≡ 1) ⊎ (r ≡ 2)) × (a ≡ 0) × (a_alone ≡ terms)
named_a zero a terms h o =
    let e : rule (codes "S") (alternative call_a ∷ []) ≡ h.0 = cc h.1 in
    absurd (omega (arith, ap first (ap (λ (x : Rule). x.name) e ∙ h.2)))
named_a (suc zero) a terms h o =
    let e : o.0 ≡ a_rule = cc o.1 in
    let x = one_alternative a_alone a terms (subst (λ (y : Rule). IsAlternative y.alts a terms) e o.2) in
    (inl refl, x.0, x.1)
named_a (suc (suc zero)) a terms h o =
    let e : o.0 ≡ a_rule = cc o.1 in
    let x = one_alternative a_alone a terms (subst (λ (y : Rule). IsAlternative y.alts a terms) e o.2) in
    (inr refl, x.0, x.1)
named_a (suc (suc (suc r))) a terms h o = absurd (cc h.1)

of_call : (e : Tree) → Derives rivals (codes "a") e (call (codes "A")) 0 1 → (r : ℕ) × ((r ≡ 1) ⊎ (r ≡ 2)) × (e ≡ node_of r 0 (text 0 1))
of_call e h =
    let (r, a, ds, terms, p, named, of_rule, all) = call_is_node rivals (codes "a") e None (codes "A") 0 1 h in
    let n = named_a r a terms named of_rule in
    let l = one_derived rivals (codes "a") ds (quoted (codes "a")) 0 1 (subst (λ ts. DerivesAll rivals (codes "a") ds ts 0 1) (sym n.2) all) in
    let t = quoted_is_text rivals (codes "a") l.0 (codes "a") 0 1 l.2 in
    (r, n.0, cc (p, n.1, l.1, t.0))

one_or_other : (d : Tree) → IsDerivation rivals (codes "a") d → (r : ℕ) × ((r ≡ 1) ⊎ (r ≡ 2)) × (d ≡ by_rule r)
one_or_other d (a, terms, ds, p, (x, at, o), all) =
    let e : x ≡ rule (codes "S") (alternative call_a ∷ []) = cc at in
    let y = one_alternative call_a a terms (subst (λ (z : Rule). IsAlternative z.alts a terms) e o) in
    let h = one_derived rivals (codes "a") ds (call (codes "A")) 0 1 (subst (λ ts. DerivesAll rivals (codes "a") ds ts 0 1) (sym y.1) all) in
    let k = of_call h.0 h.2 in
    (k.0, k.1, cc (p, y.0, h.1, k.2))

-- neither is before the other
not_before : (r q : ℕ) → Before (by_rule r) (by_rule q) 1 → ⊥
not_before r q (inl h) = omega (arith, h)
not_before r q (inr (_, inl h)) = omega (arith, h)
not_before r q (inr (_, inr (_, inl h))) = omega (arith, h)
not_before r q (inr (_, inr (_, inr (_, inl h)))) = absurd h
not_before r q (inr (_, inr (_, inr (_, inr (_, h))))) = inner h
  where
    inner : Before (node_of r 0 (text 0 1)) (node_of q 0 (text 0 1)) 1 → ⊥
    inner (inl h) = omega (arith, h)
    inner (inr (_, inl h)) = omega (arith, h)
    inner (inr (_, inr (_, inl h))) = omega (arith, h)
    inner (inr (_, inr (_, inr (_, inl h)))) = absurd h
    inner (inr (_, inr (_, inr (_, inr (_, h))))) = absurd h

pub rivals_have_no_first : (d : Tree) → First rivals (codes "a") d → ⊥
rivals_have_no_first d h = by_number (one_or_other d h.0)
  where
    rival : (r q : ℕ) → d ≡ by_rule r → (q ≡ r → ⊥) → IsDerivation rivals (codes "a") (by_rule q) → ⊥
    rival r q p n k = not_before r q (subst (λ z. Before z (by_rule q) 1) p (h.1 (by_rule q) k (λ e. let x : by_rule q ≡ by_rule r = e ∙ p in n (cc x))))

    by_number : (r : ℕ) × ((r ≡ 1) ⊎ (r ≡ 2)) × (d ≡ by_rule r) → ⊥
    by_number (r, inl e, p) = rival r 2 p (λ f. omega (arith, e, f)) other_derives
    by_number (r, inr e, p) = rival r 1 p (λ f. omega (arith, e, f)) one_derives
