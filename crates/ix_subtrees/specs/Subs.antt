-- The nodes of subtrees.
use Rattle.std.specs.Prelude.{Bool, List, [], ◌∷◌, map, get_or, if◌then◌else◌}
use Rattle.std.specs.List.Sorted.{IsPermutation}
use Rattle.ix_model.specs.declared.sub.Sub.{Sub}
use Rattle.ix_subtrees.specs.declared.place.Place.{Place}
use Rattle.ix_subtrees.specs.declared.node.Node.{Node}
use Rattle.ix_subtrees.specs.Nodes.{InOrder}
use Rattle.ix_subtrees.specs.Walks.{no_place, key_for}

abbrev pub no_sub : Sub
no_sub = record { slot = 0; left = 0; pivot = 0; right = 0 }

abbrev pub node_for : List Place → Sub → Node
node_for places sub = record { key = key_for (get_or places sub.slot no_place).owner sub.left sub.right; slot = sub.slot; pivot = sub.pivot }

abbrev pub sub_of : Node → Sub
sub_of n = record { slot = n.slot; left = n.key.left; pivot = n.pivot; right = n.key.right }

-- the nodes of the subtrees, in order
pub record AreNodes (places : List Place) (subs : List Sub) (nodes : List Node) : Type 0 where
  pub order : InOrder nodes
  pub same : IsPermutation (map (node_for places) subs) nodes

-- the subtrees of the marked nodes
abbrev pub kept : List Node → List Bool → List Sub
kept [] marks = []
kept (n ∷ ns) [] = []
kept (n ∷ ns) (b ∷ bs) = if b then sub_of n ∷ kept ns bs else kept ns bs
