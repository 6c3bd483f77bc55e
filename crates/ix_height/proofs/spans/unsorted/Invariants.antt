use Rattle.std.proofs.Common.{◌≡◌, ◌<◌, ℕ, IfSome}
use Rattle.ix_height.specs.Spans.{slot_span}
use Rattle.ix_height.specs.SpanLists.{SpansSoFar, way_at}
use Rattle.ix_height.proofs.spans.unsorted.Given as goal

abbrev pub invariant-loop-at : goal.invariant-loop-at
invariant-loop-at l = record {
  spans : SpansSoFar l.plan l.set.ways l.at l.out.items;
  last : IfSome l.last (λ t. (i : ℕ) × (i < l.at) × (slot_span (way_at l.set.ways i) ≡ t));
}
