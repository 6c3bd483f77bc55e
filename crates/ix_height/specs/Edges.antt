-- The edges of useful subtrees.
use Rattle.std.specs.Prelude.{◌≡◌, ◌⊎◌, ℕ, ◌<◌, List, Option, Some, None}
use Rattle.std.specs.List.{Contains}
use Rattle.ix_model.specs.declared.rules.Sym.{Sym}
use Rattle.ix_model.specs.declared.sub.Sub.{Sub}
use Rattle.ix_model.specs.Expansion.Parts.{Parts}
use Rattle.ix_model.specs.Expansion.SlotPlaces.{IsFirstSlot, IsLastSlot, HasNext}
use Rattle.ix_subtrees.specs.declared.entry.Entry.{Entry}
use Rattle.ix_height.specs.declared.edge.Edge.{Edge}
use Rattle.ix_height.specs.declared.span.Span.{Span}
use Rattle.ix_height.specs.Spans.{of_rule, slot_span}
use Rattle.ix_height.specs.Ways.{Before, Child, Way}
use Rattle.ix_height.specs.Graph.{IsEdgeOf}
use Rattle.ix_height.specs.SpanLists.{way_at}

module _ (plan : Parts) where
  -- an empty alternative
  abbrev pub IsEmptySub : Sub → Option Span → Option Span → Type 0
  IsEmptySub sub one two = (q : ℕ) × IsFirstSlot plan sub.slot q × IsLastSlot plan sub.slot q × (sub.pivot ≡ sub.left) × (sub.right ≡ sub.left) × (one ≡ None) × (two ≡ None)

  -- one symbol more
  abbrev pub IsNextSub : Sub → Option Span → Option Span → Type 0
  IsNextSub sub one two = (v : ℕ) × (x : Sym) × HasNext plan v sub.slot x × Before plan v sub.left sub.pivot one × Child x sub.pivot sub.right two

  -- the parts of the subtree's span
  abbrev pub IsStep : Sub → Option Span → Option Span → Type 0
  IsStep sub one two = IsEmptySub sub one two ⊎ IsNextSub sub one two

  module _ (spans : List Span) where
    -- the edge of the subtree's own span
    abbrev pub IsStepEdge : Sub → Edge → Type 0
    IsStepEdge sub e = (one two : Option Span) → IsStep sub one two → IsEdgeOf spans e (slot_span sub) one two

    -- the edge to the rule that the subtree is the whole of
    abbrev pub IsWholeEdge : Sub → ℕ → Edge → Type 0
    IsWholeEdge sub q e = IsEdgeOf spans e (of_rule q sub.left sub.right) (Some (slot_span sub)) None

    -- the edges of the first ways
    pub record EdgesSoFar (ways : List Entry) (at : ℕ) (out : List Edge) : Type 0 where
      pub from : (e : Edge) → Contains out e → (t : Span) × (one two : Option Span) × Way plan t one two × IsEdgeOf spans e t one two
      pub steps : (i : ℕ) (one two : Option Span) → i < at → IsStep (way_at ways i) one two → (e : Edge) × Contains out e × IsEdgeOf spans e (slot_span (way_at ways i)) one two
      pub wholes : (i q : ℕ) → i < at → IsLastSlot plan (way_at ways i).slot q → (e : Edge) × Contains out e × IsWholeEdge (way_at ways i) q e
