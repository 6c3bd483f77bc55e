-- The written tree that a tree over the numbered rules stands for: a helper's tree becomes a group, an option or a list.
-- Source of the helpers: Invisible XML 1.0, "Hints for implementors"; that lists recurse on the left is this project's own.
use Rattle.std.specs.Prelude.{ℕ}
use Rattle.ix_model.specs.declared.rules.Kind.{Kind}
use Rattle.ix_model.specs.declared.rules.Kind.TheVariants as kind
use Rattle.ix_model.specs.declared.rules.Rules.{Rules}
use Rattle.ix_model.specs.Derivations.Trees.{Tree, text, insertion, node, group, present, absent, no_item, list, Trees, no_tree, and, Repeated, one, again, again_after}
use Rattle.ix_model.specs.Expansion.FlatTrees.{FlatTree, flat_text, flat_insertion, flat_node, FlatTrees, no_flat, flats_and}
use Rattle.ix_model.specs.Expansion.Numbered.{kind_at}

-- the parts of a list; no derivation comes to the other case
abbrev pub parts : Tree → Repeated
parts (list ds) = ds
parts d = one d

-- the list of its first item; of a list and the next item; of a list, a separator and the next item. No derivation
-- comes to the last case
abbrev pub list_of : Trees → Tree
list_of (and no_tree d) = list (one d)
list_of (and (and no_tree p) d) = list (again (parts p) d)
list_of (and (and (and no_tree p) e) d) = list (again_after (parts p) e d)
list_of _ = no_item

-- nothing is no item; a list is itself
abbrev pub last_or : Trees → Tree → Tree
last_or no_tree e = e
last_or (and ds d) e = d

-- nothing is an absent option
abbrev pub option_of : Trees → Tree
option_of no_tree = absent
option_of (and ds d) = present d

-- the tree of alternative a of rule r, which is of this kind
abbrev pub lifted : Kind → ℕ → ℕ → Trees → Tree
lifted kind.Named r a ds = node r a ds
lifted kind.Group r a ds = group a ds
lifted kind.Opt r a ds = option_of ds
lifted kind.Star r a ds = last_or ds no_item
lifted kind.List r a ds = list_of ds

module _ (rules : Rules) where
  abbrev mutual
    -- the written tree
    pub lift : FlatTree → Tree
    lift (flat_text i j) = text i j
    lift flat_insertion = insertion
    lift (flat_node r a ds) = lifted (kind_at rules r) r a (lift_all ds)

    pub lift_all : FlatTrees → Trees
    lift_all no_flat = no_tree
    lift_all (flats_and ds d) = and (lift_all ds) (lift d)
