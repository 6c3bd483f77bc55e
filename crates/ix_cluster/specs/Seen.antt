-- What contracts see of a log and of a bank. It is this project's own.
use Rattle.std.specs.Prelude.{ℕ, List}
use Rattle.ix_cluster.specs.declared.fact.Fact.{Fact}

-- the facts in the order in which they came, and for how many more there is room, a descriptor counting twice
pub record Log : Type 0 where
  pub facts : List Fact
  pub free : ℕ

-- the facts in the order in which they came, and how many pairs of an edge and an end were handed out
pub record Bank : Type 0 where
  pub log : List Fact
  pub handed : ℕ
