-- Two choices for one span.
use Rattle.std.specs.Prelude.{◌≢◌, ℕ, List}
use Rattle.std.specs.List.{Contains}
use Rattle.ix_subtrees.specs.declared.entry.Entry.{Entry}
use Rattle.ix_subtrees.specs.Entries.{entry_for}

-- the list has two choices for the number over the span
abbrev pub HasTwoChoices : List Entry → ℕ → ℕ → ℕ → Type 0
HasTwoChoices es n l r = (j : ℕ) × (k : ℕ) × (j ≢ k) × Contains es (entry_for n l r j) × Contains es (entry_for n l r k)

-- it has two choices for some number over some span
abbrev pub HasTwo : List Entry → Type 0
HasTwo es = (n : ℕ) × (l : ℕ) × (r : ℕ) × HasTwoChoices es n l r
