-- A list of facts that is the closure, with a claim of each descriptor. It is this project's own.
use Rattle.std.specs.Prelude.{List, Contains}
use Rattle.std.specs.List.{IsDistinct}
use Rattle.ix_model.specs.Expansion.Parts.{Parts}
use Rattle.ix_cluster.specs.declared.fact.Fact.{Fact}
use Rattle.ix_cluster.specs.ClosedFacts.{IsInClosed}
use Rattle.ix_cluster.specs.Facts.{same_fact}

-- the facts are exactly those of the closure and the claims of its descriptors, each once
pub record IsClosure (plan : Parts) (facts : List Fact) : Type 0 where
  pub closed : (f : Fact) → Contains facts f → IsInClosed plan f
  pub all : (f : Fact) → IsInClosed plan f → Contains facts f
  pub once : IsDistinct same_fact facts
