-- At most one derivation is first.
use Rattle.std.proofs.Common.{◌≡◌, ◌≢◌, refl, sym, ◌⊎◌, ℕ, List, length, arith}
use mathlib.Core.Logic.{inl, inr}
use Rattle.ix_model.specs.declared.grammar.Grammar.{Grammar}
use Rattle.ix_model.specs.Derivations.Trees.{Tree, text, insertion, node, group, present, absent, no_item, list, Trees, no_tree, and, Repeated, one, again, again_after}
use Rattle.ix_model.specs.Derivations.Order.{First}
use Rattle.ix_tree_laws.proofs.Asym.{asym}

-- two numbers are the same or they differ
same_number : (a b : ℕ) → (a ≡ b) ⊎ (a ≢ b)
same_number a b = grind arith

-- two trees are the same or they differ
mutual
  pub same_tree : (d e : Tree) → (d ≡ e) ⊎ (d ≢ e)
  same_tree (text a b) (text c d) = by_both (same_number a c) (same_number b d)
    where
      by_both : (a ≡ c) ⊎ (a ≢ c) → (b ≡ d) ⊎ (b ≢ d) → (text a b ≡ text c d) ⊎ (text a b ≢ text c d)
      by_both (inl p) (inl q) = inl (cc (p, q))
      by_both (inr p) q = inr (λ e. p (cc e))
      by_both p (inr q) = inr (λ e. q (cc e))
  same_tree insertion insertion = inl refl
  same_tree (node r a ds) (node q b es) = by_three (same_number r q) (same_number a b) (same_trees ds es)
    where
      by_three : (r ≡ q) ⊎ (r ≢ q) → (a ≡ b) ⊎ (a ≢ b) → (ds ≡ es) ⊎ (ds ≢ es) → (node r a ds ≡ node q b es) ⊎ (node r a ds ≢ node q b es)
      by_three (inl p) (inl n) (inl x) = inl (cc (p, n, x))
      by_three (inr p) n x = inr (λ e. p (cc e))
      by_three p (inr n) x = inr (λ e. n (cc e))
      by_three p n (inr x) = inr (λ e. x (cc e))
  same_tree (group a ds) (group b es) = by_both (same_number a b) (same_trees ds es)
    where
      by_both : (a ≡ b) ⊎ (a ≢ b) → (ds ≡ es) ⊎ (ds ≢ es) → (group a ds ≡ group b es) ⊎ (group a ds ≢ group b es)
      by_both (inl p) (inl q) = inl (cc (p, q))
      by_both (inr p) q = inr (λ e. p (cc e))
      by_both p (inr q) = inr (λ e. q (cc e))
  same_tree (present d) (present e) = by_one (same_tree d e)
    where
      by_one : (d ≡ e) ⊎ (d ≢ e) → (present d ≡ present e) ⊎ (present d ≢ present e)
      by_one (inl p) = inl (cc p)
      by_one (inr p) = inr (λ x. p (cc x))
  same_tree absent absent = inl refl
  same_tree no_item no_item = inl refl
  same_tree (list ds) (list es) = by_one (same_repeated ds es)
    where
      by_one : (ds ≡ es) ⊎ (ds ≢ es) → (list ds ≡ list es) ⊎ (list ds ≢ list es)
      by_one (inl p) = inl (cc p)
      by_one (inr p) = inr (λ x. p (cc x))
  same_tree _ _ = inr (λ x. cc x)

  pub same_trees : (ds es : Trees) → (ds ≡ es) ⊎ (ds ≢ es)
  same_trees no_tree no_tree = inl refl
  same_trees (and ds d) (and es e) = by_both (same_trees ds es) (same_tree d e)
    where
      by_both : (ds ≡ es) ⊎ (ds ≢ es) → (d ≡ e) ⊎ (d ≢ e) → (and ds d ≡ and es e) ⊎ (and ds d ≢ and es e)
      by_both (inl p) (inl q) = inl (cc (p, q))
      by_both (inr p) q = inr (λ x. p (cc x))
      by_both p (inr q) = inr (λ x. q (cc x))
  same_trees _ _ = inr (λ x. cc x)

  pub same_repeated : (ds es : Repeated) → (ds ≡ es) ⊎ (ds ≢ es)
  same_repeated (one d) (one e) = by_one (same_tree d e)
    where
      by_one : (d ≡ e) ⊎ (d ≢ e) → (one d ≡ one e) ⊎ (one d ≢ one e)
      by_one (inl p) = inl (cc p)
      by_one (inr p) = inr (λ x. p (cc x))
  same_repeated (again ds d) (again es e) = by_both (same_repeated ds es) (same_tree d e)
    where
      by_both : (ds ≡ es) ⊎ (ds ≢ es) → (d ≡ e) ⊎ (d ≢ e) → (again ds d ≡ again es e) ⊎ (again ds d ≢ again es e)
      by_both (inl p) (inl q) = inl (cc (p, q))
      by_both (inr p) q = inr (λ x. p (cc x))
      by_both p (inr q) = inr (λ x. q (cc x))
  same_repeated (again_after ds p d) (again_after es q e) = by_three (same_repeated ds es) (same_tree p q) (same_tree d e)
    where
      by_three : (ds ≡ es) ⊎ (ds ≢ es) → (p ≡ q) ⊎ (p ≢ q) → (d ≡ e) ⊎ (d ≢ e) → (again_after ds p d ≡ again_after es q e) ⊎ (again_after ds p d ≢ again_after es q e)
      by_three (inl x) (inl y) (inl z) = inl (cc (x, y, z))
      by_three (inr x) y z = inr (λ w. x (cc w))
      by_three x (inr y) z = inr (λ w. y (cc w))
      by_three x y (inr z) = inr (λ w. z (cc w))
  same_repeated _ _ = inr (λ x. cc x)

-- each of two different first derivations would be before the other
pub first_is_one : (g : Grammar) (s : List ℕ) (d e : Tree) → First g s d → First g s e → d ≡ e
first_is_one g s d e h k = by_cases (same_tree d e)
  where
    by_cases : (d ≡ e) ⊎ (d ≢ e) → d ≡ e
    by_cases (inl p) = p
    by_cases (inr n) = absurd (asym d e (length s) (h.1 e k.0 (λ x. n (sym x))) (k.1 d h.0 n))
