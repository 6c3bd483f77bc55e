-- Heights of trees.
use Rattle.std.specs.Prelude.{ℕ, ◌+◌, max}
use Rattle.ix_model.specs.Derivations.Trees.{Tree, text, insertion, node, group, present, absent, no_item, list, Trees, no_tree, and, Repeated, one, again, again_after}

-- A node is one more than the greatest height within it.
abbrev mutual
  pub height : Tree → ℕ
  height (text i j) = 0
  height insertion = 0
  height (node r a ds) = heights ds + 1
  height (group a ds) = heights ds
  height (present d) = height d
  height absent = 0
  height no_item = 0
  height (list ds) = repeated_height ds

  pub heights : Trees → ℕ
  heights no_tree = 0
  heights (and ds d) = max (heights ds) (height d)

  pub repeated_height : Repeated → ℕ
  repeated_height (one d) = height d
  repeated_height (again ds d) = max (repeated_height ds) (height d)
  repeated_height (again_after ds e d) = max (max (repeated_height ds) (height e)) (height d)
