use Rattle.std.proofs.Common.{◌≡◌, ◌+◌, ◌<◌, ℕ}
use Rattle.ix_subtrees.specs.Entries.{entry_at}
use Rattle.ix_subtrees.proofs.choices.has_double.Given as goal

abbrev pub invariant-loop-at : goal.invariant-loop-at
invariant-loop-at l = (i : ℕ) → i + 1 < l.at → (entry_at l.entries i).span ≡ (entry_at l.entries (i + 1)).span → ⊥
