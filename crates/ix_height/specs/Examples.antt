-- What the worked examples speak of.
use Rattle.std.specs.Prelude.{ℕ, Bool, true, false, List, [], ◌∷◌, Option, Some, None, codes}
use Rattle.ix_model.specs.Expansion.Parts.{Parts}
use Rattle.ix_examples.specs.SmallPlans.{only_a, cycle}
use Rattle.ix_height.specs.declared.edge.Edge.{Edge}
use Rattle.ix_height.specs.declared.span.Span.{Span}
use Rattle.ix_height.specs.Spans.{of_slot, of_rule}
use Rattle.ix_height.specs.HeightLists.{HeightLists}

abbrev pub edge : ℕ → Option ℕ → Option ℕ → Edge
edge to one two = record { to = to; one = one; two = two }

-- S: "a". on `a`, its spans, and the ways between them
abbrev pub by_letter : Parts
by_letter = only_a (codes "a")

abbrev pub letter_spans : List Span
letter_spans = of_slot 1 0 1 ∷ of_rule 0 0 1 ∷ []

abbrev pub letter_edges : List Edge
letter_edges = edge 0 None None ∷ edge 1 (Some 0) None ∷ []

abbrev pub letter_raised : List Bool
letter_raised = false ∷ true ∷ []

abbrev pub letter_heights : Option ℕ → Option ℕ → HeightLists
letter_heights slot rule = record { spans = letter_spans; heights = slot ∷ rule ∷ [] }

-- S: S; "a". on `a`: number 0 is the slot behind S, number 1 that behind the letter, and number 2 the rule
abbrev pub by_cycle : Parts
by_cycle = cycle (codes "a")

abbrev pub cycle_edges : List Edge
cycle_edges = edge 0 None (Some 2) ∷ edge 1 None None ∷ edge 2 (Some 0) None ∷ edge 2 (Some 1) None ∷ []

abbrev pub cycle_raised : List Bool
cycle_raised = false ∷ false ∷ true ∷ []
