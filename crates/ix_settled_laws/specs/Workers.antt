-- A worker over banks: what its pass knows, what is its own, and what it owes. It is this project's own.
use Rattle.std.specs.Prelude.{◌⊎◌, ℕ, ◌<◌, List, Contains, slice_index_or}
use Rattle.ix_cluster.specs.declared.fact.Fact.{Fact}
use Rattle.ix_closure.specs.declared.owed.Owed.{Owed}
use Rattle.ix_table.specs.Answers.{Knows}
use Rattle.ix_table.specs.Sights.{Sight}

pub record Worker : Type 0 where
  -- the lengths that the logs had at the start, where the worker answers for those entries too, and else none
  pub begun : List ℕ
  -- what its pass knows, and which entries came by it
  pub sight : Sight
  -- the steps that it is to do
  pub owed : List Owed

-- the worker answers for the entry of this number in the log at the place: what follows from that entry is its work
abbrev pub Answers : Worker → ℕ → ℕ → Type 0
Answers w m k = (k < slice_index_or w.begun m 0) ⊎ Contains w.sight.own (m, k)

-- the fact is known at some place
abbrev pub IsKnown : Sight → Fact → Type 0
IsKnown sight f = (m : ℕ) × Knows sight m f
