use Rattle.std.proofs.Common.{arith}
use Rattle.ix_slots.proofs.Counting.{next_alt_count}
use Rattle.ix_slots.proofs.numbering.alts_slot_count.Goals as goal

pub overflow_add-count : goal.overflow_add-count
overflow_add-count c = omega (arith, next_alt_count 0 c.loop-line.line-index c.args.lines.now c.line-item.result c.loop-line-test.true c.line-item.is, c.len.ensures, c.loop-line.invariant, c.requires)

pub overflow_add-count-in-loop-line : goal.overflow_add-count-in-loop-line
overflow_add-count-in-loop-line c = omega (arith, next_alt_count 0 c.loop-line.line-index c.args.lines.now c.line-item.result c.loop-line-test.true c.line-item.is, c.len.ensures, c.loop-line.invariant, c.requires)

pub loop-line-preserved : goal.loop-line-preserved
loop-line-preserved c = omega (arith, next_alt_count 0 c.loop-line.line-index c.args.lines.now c.line-item.result c.loop-line-test.true c.line-item.is, c.len.ensures, c.loop-line.invariant)
