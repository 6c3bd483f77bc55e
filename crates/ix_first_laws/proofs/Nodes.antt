-- What a tree of a rule is: a node of it, with a tree for each symbol of one of its alternatives.
use Rattle.std.proofs.Common.{◌≡◌, refl, sym, subst, ℕ, List, length, Option}
use Rattle.ix_model.specs.declared.grammar.Mark.{Mark}
use Rattle.ix_model.specs.declared.rules.Sym.{Sym}
use Rattle.ix_model.specs.declared.rules.Sym.TheVariants as sy
use Rattle.ix_model.specs.Expansion.Parts.{Parts}
use Rattle.ix_model.specs.Expansion.FlatTrees.{FlatTree, flat_text, flat_insertion, flat_node, FlatTrees, flat_count}
use Rattle.ix_model.specs.Expansion.FlatDerives.{FlatDerives, FlatDerivesFirst, IsLine}

module _ (plan : Parts) (r i j : ℕ) where
  -- the trees are those of alternative a of rule r, from i to j
  pub record IsNode (a : ℕ) (ds : FlatTrees) : Type 0 where
    pub syms : List Sym
    pub line : IsLine plan r a syms
    pub count : flat_count ds ≡ length syms
    pub trees : FlatDerivesFirst plan ds syms i j

  pub node_derives : (m : Option Mark) (a : ℕ) (ds : FlatTrees) → IsNode a ds → FlatDerives plan (flat_node r a ds) (sy.Rule r m) i j
  node_derives m a ds n = (m, refl, n.syms, n.line, n.count, n.trees)

  -- what holds of all nodes holds of all trees
  pub by_node : (P : FlatTree → Type 0) → ((a : ℕ) (ds : FlatTrees) → IsNode a ds → P (flat_node r a ds)) → (d : FlatTree) (m : Option Mark) → FlatDerives plan d (sy.Rule r m) i j → P d
  by_node P f (flat_text a b) m h = absurd (cc h.2.3)
  by_node P f flat_insertion m h = absurd (cc h.1)
  by_node P f (flat_node q a ds) m (m', is, syms, line, count, h) =
      let e : q ≡ r = cc is in
      subst (λ (z : ℕ). P (flat_node z a ds)) (sym e) (f a ds (record { syms = syms; line = subst (λ (z : ℕ). IsLine plan z a syms) e line; count = count; trees = h }))
