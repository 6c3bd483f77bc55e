use Rattle.std.proofs.Common.{◌≡◌, ◌+◌, ◌≤◌, drop}
use Rattle.ix_marks.specs.Counted.{run_length}
use Rattle.ix_dyn.specs.Top.{begin_count, sum_at_top}
use Rattle.ix_dyn.proofs.top.counts.Given as goal

abbrev pub invariant-loop-item : goal.invariant-loop-item
invariant-loop-item l = record {
  deep : l.depth ≤ l.item-index;
  few : l.elements ≤ l.item-index;
  elements : l.elements + sum_at_top begin_count l.depth (drop l.item-index l.items) ≡ sum_at_top begin_count 0 l.items;
  chars : l.chars + sum_at_top run_length l.depth (drop l.item-index l.items) ≡ sum_at_top run_length 0 l.items;
}
