use Rattle.std.proofs.Common.{arith}
use Rattle.ix_slots.proofs.Counting.{next_rule_count}
use Rattle.ix_slots.proofs.numbering.slot_count.Goals as goal

pub alts_slot_count-count-requires : goal.alts_slot_count-count-requires
alts_slot_count-count-requires c = omega (arith, next_rule_count c.loop-flat.flat-index c.args.flats.now c.flat-item.result c.as_slice.result.now c.loop-flat-test.true c.flat-item.is c.as_slice.ensures, c.loop-flat.invariant, c.requires)

pub overflow_add-count : goal.overflow_add-count
overflow_add-count c = omega (arith, next_rule_count c.loop-flat.flat-index c.args.flats.now c.flat-item.result c.as_slice.result.now c.loop-flat-test.true c.flat-item.is c.as_slice.ensures, c.alts_slot_count-count.ensures, c.loop-flat.invariant, c.requires)

pub loop-flat-preserved : goal.loop-flat-preserved
loop-flat-preserved c = omega (arith, next_rule_count c.loop-flat.flat-index c.args.flats.now c.flat-item.result c.as_slice.result.now c.loop-flat-test.true c.flat-item.is c.as_slice.ensures, c.alts_slot_count-count.ensures, c.loop-flat.invariant)
