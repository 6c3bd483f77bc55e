-- Trees over the small grammars of the worked examples.
use Rattle.std.specs.Prelude.{ℕ, ◌+◌}
use Rattle.ix_model.specs.Derivations.Trees.{Tree, text, insertion, node, group, present, list, Trees, no_tree, and, one, again, again_after}

-- a node with one tree
abbrev pub node_of : ℕ → ℕ → Tree → Tree
node_of r a d = node r a (and no_tree d)

-- two trees
abbrev pub pair : Tree → Tree → Trees
pair d e = and (and no_tree d) e

-- alternative a of a group, with the text from i to j
abbrev pub chosen : ℕ → ℕ → ℕ → Tree
chosen a i j = group a (and no_tree (text i j))

-- a group with a text from i to k, and one from k to j
abbrev pub halves : ℕ → ℕ → ℕ → Tree
halves i k j = group 0 (pair (text i k) (text k j))

-- a list of two items
abbrev pub two_items : Tree → Tree → Tree
two_items d e = list (again (one d) e)

-- a list of two items with a separator between them
abbrev pub separated : Tree → Tree → Tree → Tree
separated d p e = list (again_after (one d) p e)

-- the only derivation of `a` under `S: "a".`
abbrev pub a_tree : Tree
a_tree = node_of 0 0 (text 0 1)

-- `1` by the second alternative of E
abbrev pub one_at : ℕ → Tree
one_at i = node_of 0 1 (text i (i + 1))

-- a sum with its `+` at i
abbrev pub sum_at : ℕ → Tree → Tree → Tree
sum_at i d e = node 0 0 (and (and (and no_tree d) (text i (i + 1))) e)

-- (1+1)+1
abbrev pub left_sum : Tree
left_sum = sum_at 3 (sum_at 1 (one_at 0) (one_at 2)) (one_at 4)

-- 1+(1+1)
abbrev pub right_sum : Tree
right_sum = sum_at 1 (one_at 0) (sum_at 3 (one_at 2) (one_at 4))

-- `ab` under `depths`, with `a` by the first alternative of the group, or by the second
abbrev pub deeper : Tree
deeper = node 0 0 (pair (group 0 (and no_tree (node_of 1 0 (node_of 2 0 (text 0 1))))) (node_of 4 0 (node_of 5 0 (node_of 6 0 (text 1 2)))))

abbrev pub shallower : Tree
shallower = node 0 0 (pair (group 1 (and no_tree (node_of 3 0 (text 0 1)))) (node_of 4 0 (node_of 5 0 (node_of 6 0 (text 1 2)))))

-- `xx` under `runs`, as one item of two characters, or as two items of one
abbrev pub one_run : Tree
one_run = node_of 0 0 (list (one (node_of 1 0 (two_items (text 0 1) (text 1 2)))))

abbrev pub two_runs : Tree
two_runs = node_of 0 0 (two_items (node_of 1 0 (list (one (text 0 1)))) (node_of 1 0 (list (one (text 1 2)))))

-- `bc,c` under `parts`
abbrev pub parts_tree : Tree
parts_tree = node 0 0 (and (and no_tree (present (group 1 (and no_tree (text 0 1))))) (list (again_after (one (text 1 2)) (text 2 3) (text 3 4))))

-- `tv` under `hidden`
abbrev pub hidden_tree : Tree
hidden_tree = node 0 0 (and (and no_tree (text 0 1)) (node_of 1 0 (node_of 2 0 (node_of 3 0 (text 1 2)))))

-- `xwy` under `nested`
abbrev pub nested_tree : Tree
nested_tree = node_of 0 0 (node 1 0 (and (and (and (and no_tree (text 0 1)) (node_of 2 0 (text 1 2))) (text 2 3)) insertion))

-- `123` under `marks`
abbrev pub marks_tree : Tree
marks_tree = node 0 0 (and (and (and no_tree (node_of 1 1 (text 0 1))) (node_of 2 0 (text 1 2))) (node_of 3 0 (text 2 3)))

-- `a` under `marked_root`
abbrev pub marked_root_tree : Tree
marked_root_tree = node_of 0 1 (node_of 1 0 (text 0 1))

-- `a` under `escaped`
abbrev pub escaped_tree : Tree
escaped_tree = node 0 0 (and (and (and no_tree insertion) (text 0 1)) insertion)
