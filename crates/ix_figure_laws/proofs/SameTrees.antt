-- Plans with the same slots and rules, and terminals that match the same, have the same useful subtrees.
use Rattle.std.proofs.Common.{ℕ, ◌+◌, ◌-◌, List, length, None, inl, inr, subst}
use Rattle.ix_model.specs.declared.rules.Sym.{Sym}
use Rattle.ix_model.specs.declared.rules.Sym.TheVariants as sy
use Rattle.ix_model.specs.declared.sub.Sub.{Sub}
use Rattle.ix_model.specs.Closure.Useful.{IsSub, Stands, StandsAmong, Useful}
use Rattle.ix_model.specs.Expansion.FlatDerives.{FlatDerives, FlatDerivesFirst}
use Rattle.ix_model.specs.Expansion.FlatTrees.{FlatTree, flat_text, flat_insertion, flat_node, FlatTrees, no_flat, flats_and, flat_count, flat_width}
use Rattle.ix_model.specs.Expansion.Parts.{Parts}
use Rattle.ix_figure_laws.proofs.SameClosure.{Follows, same_slot, same_line}

module _ (p q : Parts) (h : Follows p q) where
  mutual
    tree : (d : FlatTree) (x : Sym) (i j : ℕ) → FlatDerives p d x i j → FlatDerives q d x i j
    tree (flat_text a b) x i j (e, o, t) = (e, o, h.terminals x i j t)
    tree flat_insertion x i j t = t
    tree (flat_node r a ds) x i j (mark, e, syms, l, n, t) = (mark, e, syms, same_line p q h r a syms l, n, trees ds syms i j t)

    trees : (ds : FlatTrees) (syms : List Sym) (i j : ℕ) → FlatDerivesFirst p ds syms i j → FlatDerivesFirst q ds syms i j
    trees no_flat syms i j t = t
    trees (flats_and ds d) syms i j (k, x, t, e, o) = (k, x, trees ds syms i k t, e, tree d x k j o)

  sub_is : (sub : Sub) (r a dot l k j : ℕ) → IsSub p sub r a dot l k j → IsSub q sub r a dot l k j
  sub_is sub r a dot l k j (s, at, e) = (s, same_slot p q h s r a dot at, e)

  mutual
    stands : (d : FlatTree) (sub : Sub) (l j : ℕ) → Stands p d sub l j → Stands q d sub l j
    stands (flat_text a b) sub l j t = t
    stands flat_insertion sub l j t = t
    stands (flat_node r a ds) sub l j (inl t) = inl (t.0, sub_is sub r a 0 l l l t.1)
    stands (flat_node r a ds) sub l j (inr t) = inr (among ds sub r a l j t)

    among : (ds : FlatTrees) (sub : Sub) (r a l j : ℕ) → StandsAmong p ds sub r a l j → StandsAmong q ds sub r a l j
    among no_flat sub r a l j t = t
    among (flats_and ds d) sub r a l j (inl t) = inl (sub_is sub r a (flat_count ds + 1) l (j - flat_width d) j t)
    among (flats_and ds d) sub r a l j (inr (inl t)) = inr (inl (stands d sub (j - flat_width d) j t))
    among (flats_and ds d) sub r a l j (inr (inr t)) = inr (inr (among ds sub r a l (j - flat_width d) t))

  -- each useful subtree of the one is a useful subtree of the other
  pub useful : (sub : Sub) → Useful p sub → Useful q sub
  useful sub (d, t, s) = (
    d,
    subst (λ (text : List ℕ). FlatDerives q d (sy.Rule 0 None) 0 (length text)) h.text (tree d (sy.Rule 0 None) 0 (length p.text) t),
    subst (λ (text : List ℕ). Stands q d sub 0 (length text)) h.text (stands d sub 0 (length p.text) s),
  )
