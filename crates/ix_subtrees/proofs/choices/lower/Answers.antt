use Rattle.std.proofs.Common.{rules}
use Rattle.std.specs.Ordering.{is_lt}
use Rattle.std.proofs.lemmas.List.Sorted.{IsPartitionPoint-from_clause}
use Rattle.ix_subtrees.specs.declared.entry.Entry.{Entry}
use Rattle.ix_subtrees.specs.Orders.{span_cmp}
use Rattle.ix_subtrees.proofs.Orders.{span_total, spans_sorted}
use Rattle.ix_subtrees.proofs.Points.{parted_before}
use Rattle.ix_subtrees.proofs.choices.lower.Goals as goal

pub returns-clause-point : goal.returns-clause-point
returns-clause-point c =
    IsPartitionPoint-from_clause (λ (e : Entry). is_lt (span_cmp e.span c.args.span)) c.args.entries.now _ c.partition_point.ensures.partitioned
    (parted_before span_total (λ (e : Entry). e.span) c.args.entries.now c.args.span (spans_sorted c.args.entries.now c.requires)) (λ a r q k. search rules)
