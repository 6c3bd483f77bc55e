-- The tree over the numbered rules that stands for a written tree, by the symbol that its term has become.
use Rattle.std.specs.Prelude.{ℕ}
use Rattle.ix_model.specs.declared.rules.Kind.{Kind}
use Rattle.ix_model.specs.declared.rules.Kind.TheVariants as kind
use Rattle.ix_model.specs.declared.rules.Sym.{Sym}
use Rattle.ix_model.specs.declared.rules.Sym.TheVariants as sym
use Rattle.ix_model.specs.declared.rules.Rules.{Rules}
use Rattle.ix_model.specs.Derivations.Trees.{Tree, text, insertion, node, group, present, absent, no_item, list, Trees, no_tree, and, Repeated, one, again, again_after, tree_count}
use Rattle.ix_model.specs.Expansion.FlatTrees.{FlatTree, flat_text, flat_insertion, flat_node, FlatTrees, no_flat, flats_and}
use Rattle.ix_model.specs.Expansion.Numbered.{kind_at, sym_at}

-- the rule of a symbol; no derivation comes to the other case
abbrev pub rule_in : Sym → ℕ
rule_in (sym.Rule r mark) = r
rule_in _ = 0

module _ (rules : Rules) where
  -- a list under the helper r: a star holds it in its second alternative, under the helper that is named there
  abbrev pub starred : Kind → ℕ → (ℕ → FlatTree) → FlatTree
  starred kind.Star r make = flat_node r 1 (flats_and no_flat (make (rule_in (sym_at rules r 1 0))))
  starred _ r make = make r

  abbrev mutual
    -- the tree of the symbol x
    pub lower : Tree → Sym → FlatTree
    lower (text i j) x = flat_text i j
    lower insertion x = flat_insertion
    lower (node q a ds) x = flat_node (rule_in x) a (lower_all ds (rule_in x) a)
    lower (group a ds) x = flat_node (rule_in x) a (lower_all ds (rule_in x) a)
    lower (present d) x = flat_node (rule_in x) 0 (flats_and no_flat (lower d (sym_at rules (rule_in x) 0 0)))
    lower absent x = flat_node (rule_in x) 1 no_flat
    lower no_item x = flat_node (rule_in x) 0 no_flat
    lower (list ds) x = starred (kind_at rules (rule_in x)) (rule_in x) (λ p. lower_repeated ds p)

    -- one for each symbol of alternative a of rule r
    pub lower_all : Trees → ℕ → ℕ → FlatTrees
    lower_all no_tree r a = no_flat
    lower_all (and ds d) r a = flats_and (lower_all ds r a) (lower d (sym_at rules r a (tree_count ds)))

    -- the list under its helper p: one item, or the list without its last item, a separator where there is one, and
    -- that item
    pub lower_repeated : Repeated → ℕ → FlatTree
    lower_repeated (one d) p = flat_node p 0 (flats_and no_flat (lower d (sym_at rules p 0 0)))
    lower_repeated (again ds d) p = flat_node p 1 (flats_and (flats_and no_flat (lower_repeated ds p)) (lower d (sym_at rules p 1 1)))
    lower_repeated (again_after ds e d) p = flat_node p 1 (flats_and (flats_and (flats_and no_flat (lower_repeated ds p)) (lower e (sym_at rules p 1 1))) (lower d (sym_at rules p 1 2)))
