-- Laws of least heights.
use Rattle.std.specs.Prelude.{ℕ, Bool, List}
use Rattle.ix_model.specs.Expansion.Parts.{Parts}
use Rattle.ix_model.specs.Expansion.Planned.{IsPlanned}
use Rattle.ix_height.specs.declared.edge.Edge.{Edge}
use Rattle.ix_height.specs.declared.span.Span.{Span}
use Rattle.ix_height.specs.Low.{Low}
use Rattle.ix_height.specs.Spans.{IsOfUse}
use Rattle.ix_height.specs.Heights.{HasHeight}
use Rattle.ix_height.specs.Graph.{At, IsGraph}

-- what reaches a node is a tree, and each tree of a useful span reaches its node
pub record LowIsHeight (plan : Parts) (spans : List Span) (edges : List Edge) (raised : List Bool) : Type 0 where
  pub tree : (v : ℕ) (t : Span) (h : ℕ) → At spans v t → Low edges raised v h → HasHeight plan t h
  pub low : (t : Span) (h : ℕ) → IsOfUse plan t → HasHeight plan t h → (v : ℕ) × At spans v t × Low edges raised v h

abbrev pub GraphIsExact : Type 0
GraphIsExact = (plan : Parts) (spans : List Span) (edges : List Edge) (raised : List Bool) → IsPlanned plan → IsGraph plan spans edges raised → LowIsHeight plan spans edges raised
