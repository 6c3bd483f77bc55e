-- The order of subtrees in the walk from the root.
use Rattle.std.specs.Prelude.{◌≡◌, ◌⊎◌, ℕ, ◌+◌, ◌<◌, ◌≤◌, Bool, true, false, not, List, length, get_or, count_by}
use Rattle.std.specs.Ordering.{is_lt}
use Rattle.std.specs.List.{Contains}
use Rattle.std.specs.List.Sorted.{IsSortedByKey, IsPartitionPoint}
use Rattle.ix_subtrees.specs.declared.node.Owner.TheVariants.{Slot}
use Rattle.ix_subtrees.specs.declared.node.Key.{Key}
use Rattle.ix_subtrees.specs.declared.node.Node.{Node}
use Rattle.ix_subtrees.specs.Orders.{key_cmp}

abbrev pub no_node : Node
no_node = record { key = record { owner = Slot 0; left = 0; right = 0 }; slot = 0; pivot = 0 }

abbrev pub key_at : List Node → ℕ → Key
key_at nodes i = (get_or nodes i no_node).key

-- the keys never fall
abbrev pub InOrder : List Node → Type 0
InOrder = IsSortedByKey (λ (node : Node). node.key) key_cmp

-- n is the number of nodes before those of the key
pub record IsFirstOfKey (nodes : List Node) (key : Key) (n : ℕ) : Type 0 where
  pub within : n ≤ length nodes
  pub point : IsPartitionPoint (λ (node : Node). is_lt (key_cmp node.key key) ≡ true) (λ (node : Node). is_lt (key_cmp node.key key) ≡ false) nodes n

abbrev pub IsMarked : List Bool → ℕ → Type 0
IsMarked marks i = get_or marks i false ≡ true

abbrev pub unmarked : List Bool → ℕ
unmarked = count_by not

-- the nodes of one key are marked together
abbrev pub AreTogether : List Node → List Bool → Type 0
AreTogether nodes marks = (i j : ℕ) → i < length nodes → j < length nodes → key_at nodes i ≡ key_at nodes j → IsMarked marks i → IsMarked marks j

-- the nodes of these keys got their marks, and each new one is to be done
pub record Visited (nodes : List Node) (keys : List Key) (marks : List Bool) (todo : List ℕ) (marks' : List Bool) (todo' : List ℕ) : Type 0 where
  pub len : length marks' ≡ length marks
  pub kept : (i : ℕ) → IsMarked marks i → IsMarked marks' i
  pub only : (i : ℕ) → IsMarked marks' i → IsMarked marks i ⊎ ((i < length nodes) × Contains keys (key_at nodes i))
  pub there : (i : ℕ) → i < length nodes → Contains keys (key_at nodes i) → IsMarked marks' i
  pub owed : (i : ℕ) → IsMarked marks' i → IsMarked marks i ⊎ Contains todo' i
  pub still : (i : ℕ) → Contains todo i → Contains todo' i
  pub fresh : (i : ℕ) → Contains todo' i → Contains todo i ⊎ ((i < length nodes) × IsMarked marks' i)
  pub paid : unmarked marks' + length todo' ≡ unmarked marks + length todo
  pub together : AreTogether nodes marks'
