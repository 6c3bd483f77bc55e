-- Entries made of subtrees.
use Rattle.std.specs.Prelude.{◌≡◌, ℕ, ◌<◌, List, length, get_or}
use Rattle.ix_model.specs.declared.sub.Sub.{Sub}
use Rattle.ix_model.specs.Expansion.Parts.{Parts}
use Rattle.ix_subtrees.specs.declared.entry.Entry.{Entry}
use Rattle.ix_subtrees.specs.Entries.{entry_at}
use Rattle.ix_subtrees.specs.Subs.{no_sub}
use Rattle.ix_subtrees.specs.Sets.{sub_of_entry, IsLastOf}

-- the entry names the alternative that the subtree ends
abbrev pub IsAlt : Parts → Sub → Entry → Type 0
IsAlt plan sub e = IsLastOf plan sub.slot e.span.number e.choice × (e.span.left ≡ sub.left) × (e.span.right ≡ sub.right)

-- the entry names the subtree's pivot
abbrev pub IsWay : Sub → Entry → Type 0
IsWay sub e = sub_of_entry e ≡ sub

-- the entries of the first subtrees
pub record Gathered (R : Sub → Entry → Type 0) (subs : List Sub) (at : ℕ) (out : List Entry) : Type 0 where
  pub from : (k : ℕ) → k < length out → (i : ℕ) × (i < at) × R (get_or subs i no_sub) (entry_at out k)
  pub into : (i : ℕ) (e : Entry) → i < at → R (get_or subs i no_sub) e → (k : ℕ) × (k < length out) × (entry_at out k ≡ e)
