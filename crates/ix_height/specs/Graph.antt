-- A graph of spans, by their numbers in a list: its edges are the ways.
use Rattle.std.specs.Prelude.{◌≡◌, ℕ, ◌<◌, Bool, false, List, length, get_or, Option, Some, None}
use Rattle.ix_model.specs.Expansion.Parts.{Parts}
use Rattle.ix_height.specs.declared.edge.Edge.{Edge}
use Rattle.ix_height.specs.declared.span.Span.{Span}
use Rattle.ix_height.specs.Low.{no_edge}
use Rattle.ix_height.specs.Spans.{of_slot, is_raised}
use Rattle.ix_height.specs.Ways.{Way}

-- a default where a list has no span
abbrev pub no_span : Span
no_span = of_slot 0 0 0

module _ (spans : List Span) where
  -- span number v is t
  abbrev pub At : ℕ → Span → Type 0
  At v t = (v < length spans) × (get_or spans v no_span ≡ t)

  -- both are there or neither, and then they agree
  abbrev pub PartAt : Option ℕ → Option Span → Type 0
  PartAt None None = Unit {0}
  PartAt None (Some t) = ⊥
  PartAt (Some v) None = ⊥
  PartAt (Some v) (Some t) = At v t

  -- the edge is this way
  pub record IsEdgeOf (e : Edge) (t : Span) (one two : Option Span) : Type 0 where
    pub to : At e.to t
    pub one_at : PartAt e.one one
    pub two_at : PartAt e.two two

module _ (plan : Parts) (spans : List Span) where
  pub record IsGraph (edges : List Edge) (raised : List Bool) : Type 0 where
    pub distinct : (v w : ℕ) → v < length spans → w < length spans → get_or spans v no_span ≡ get_or spans w no_span → v ≡ w
    pub up : (v : ℕ) (t : Span) → At spans v t → get_or raised v false ≡ is_raised plan t
    pub sound : (n : ℕ) → n < length edges → (t : Span) × (one two : Option Span) × Way plan t one two × IsEdgeOf spans (get_or edges n no_edge) t one two
    pub complete : (t : Span) (one two : Option Span) → Way plan t one two → (n : ℕ) × (n < length edges) × IsEdgeOf spans (get_or edges n no_edge) t one two
