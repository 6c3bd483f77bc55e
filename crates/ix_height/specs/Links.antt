-- Edges by the nodes that they come by.
use Rattle.std.specs.Prelude.{◌≡◌, ◌⊎◌, ℕ, ◌<◌, ◌≤◌, List, [], ◌∷◌, length, get_or, Option, Some, None}
use Rattle.std.specs.List.{Contains}
use Rattle.ix_height.specs.declared.edge.Edge.{Edge}
use Rattle.ix_height.specs.Low.{no_edge}
use Rattle.ix_height.specs.declared.link.Link.{Link}

abbrev pub by_node : Link → ℕ
by_node l = l.node

abbrev pub by_edge : Link → ℕ
by_edge l = l.edge

abbrev pub link : ℕ → ℕ → Link
link v n = record { node = v; edge = n }

abbrev pub links_by : Option ℕ → ℕ → List Link
links_by None n = []
links_by (Some v) n = link v n ∷ []

abbrev pub link_at : List Link → ℕ → Link
link_at links k = get_or links k (link 0 0)

-- the edge comes by the node
abbrev pub ComesBy : List Edge → ℕ → ℕ → Type 0
ComesBy edges n v = ((get_or edges n no_edge).one ≡ Some v) ⊎ ((get_or edges n no_edge).two ≡ Some v)

-- the links of the first edges
pub record LinksSoFar (edges : List Edge) (at : ℕ) (out : List Link) : Type 0 where
  pub from : (x : Link) → Contains out x → (x.edge < at) × ComesBy edges x.edge x.node
  pub into : (n v : ℕ) → n < at → ComesBy edges n v → Contains out (link v n)

-- n is the number of links of nodes before this one
pub record IsLowerLink (links : List Link) (node n : ℕ) : Type 0 where
  pub within : n ≤ length links
  pub below : (i : ℕ) → i < n → (link_at links i).node < node
  pub above : (i : ℕ) → n ≤ i → i < length links → node ≤ (link_at links i).node

-- for the first nodes, where their links begin
pub record AreStarts (links : List Link) (count : ℕ) (starts : List ℕ) : Type 0 where
  pub all : length starts ≡ count
  pub each : (v : ℕ) → v < count → IsLowerLink links v (get_or starts v 0)
