-- Trees over the numbered rules.
use Rattle.std.specs.Prelude.{ℕ, ◌+◌, ◌-◌}

mutual
  pub data FlatTree : Type 0 where
    -- the characters of a terminal, by their span
    flat_text : ℕ → ℕ → FlatTree
    flat_insertion : FlatTree
    -- a rule, one of its alternatives, and a tree for each symbol
    flat_node : (rule alt : ℕ) → FlatTrees → FlatTree

  -- in order; a longer list is a list and its last tree
  pub data FlatTrees : Type 0 where
    no_flat : FlatTrees
    flats_and : FlatTrees → FlatTree → FlatTrees

-- how many
abbrev pub flat_count : FlatTrees → ℕ
flat_count no_flat = 0
flat_count (flats_and ds d) = flat_count ds + 1

-- how many characters lie under it
abbrev mutual
  pub flat_width : FlatTree → ℕ
  flat_width (flat_text i j) = j - i
  flat_width flat_insertion = 0
  flat_width (flat_node r a ds) = flat_widths ds

  pub flat_widths : FlatTrees → ℕ
  flat_widths no_flat = 0
  flat_widths (flats_and ds d) = flat_widths ds + flat_width d
